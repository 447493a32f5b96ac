use Rattle.cov_valid.proofs.users.users_into.Given as goal
use Rattle.cov_valid.specs.Groups.{AreMembers}

abbrev pub invariant-loop-k : goal.invariant-loop-k
invariant-loop-k l = AreMembers l.entries l.fn.group.from l.k l.users.items
