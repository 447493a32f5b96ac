use Rattle.cov_valid.proofs.Judging.{ArePut}
use Rattle.cov_valid.proofs.table.by_place.Given as goal

abbrev pub invariant-loop-k : goal.invariant-loop-k
invariant-loop-k l = ArePut l.uses l.entries l.k l.table.items
