use Rattle.cov_valid.proofs.MarksSoFar.{AreMarksBefore}
use Rattle.cov_marks.specs.Beside.{IsUseOf}
use Rattle.cov_marks.proofs.marking.marks_of_segments.Given as goal

abbrev pub invariant-loop-place : goal.invariant-loop-place
invariant-loop-place l = AreMarksBefore (IsUseOf l.segments) l.uses l.place l.marks.items
