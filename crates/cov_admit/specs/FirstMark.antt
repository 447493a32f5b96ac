-- The first mark of a coverage.
use Rattle.std.specs.Prelude.{◌≡◌, List, Some, slice_get}
use Rattle.cov_types.specs.Coverage.{Members}
use Rattle.cov_types.specs.Uses.{uses_of}
use Rattle.cov_valid.specs.Marks.{AreFaultMarks}
use Rattle.cov_valid.specs.declared.mark.Mark.{Mark}

-- the mark is the first of the marks of the coverage, by their places
pub record IsFirstMark (members : Members) (m : Mark) : Type 0 where
  pub marks : List Mark
  pub are_marks : AreFaultMarks (uses_of members) marks
  pub first : slice_get marks 0 ≡ Some m
