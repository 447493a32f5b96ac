use Rattle.cov_rules.proofs.Orders.{NoneYet}
use Rattle.cov_rules.proofs.priority.first_of.Given as goal

abbrev pub invariant-loop-member : goal.invariant-loop-member
invariant-loop-member l = NoneYet l.order l.facts l.member-index
