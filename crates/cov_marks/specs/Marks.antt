-- The marks of a list of uses at a gap width.
use Rattle.std.specs.Prelude.{◌≡◌, ℕ, List}
use Rattle.cov_types.specs.declared.edge_use.EdgeUse.{EdgeUse}
use Rattle.cov_marks.specs.Kinds.{IsOfKind}
use Rattle.cov_valid.specs.Marks.{AreMarksBy}
use Rattle.cov_valid.specs.declared.mark.Mark.{Mark}

-- among so many members and at this gap width the list has exactly the marks, by ascending place
abbrev pub AreMarks : List EdgeUse → ℕ → ℕ → List Mark → Type 0
AreMarks uses members w marks = AreMarksBy (IsOfKind uses members w) uses marks

-- the same uses among as many members have one list of marks at a width
abbrev pub MarksLaw : Type 0
MarksLaw = (uses : List EdgeUse) (members w : ℕ) (ms ns : List Mark) → AreMarks uses members w ms → AreMarks uses members w ns → ms ≡ ns
