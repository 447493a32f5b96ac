use Rattle.cov_valid.proofs.MarksSoFar.{AreMarksBefore}
use Rattle.cov_valid.proofs.validator.marks_of.Given as goal
use Rattle.cov_valid.specs.Kinds.{IsFaultOf}

abbrev pub invariant-loop-place : goal.invariant-loop-place
invariant-loop-place l = AreMarksBefore (IsFaultOf l.uses) l.uses l.place l.marks.items
