-- The marks of a list of uses.
use Rattle.std.specs.Prelude.{◌≡◌, ℕ, ◌<◌, ◌↔◌, List, Contains, AllPairs, Some, slice_get}
use Rattle.cov_types.specs.declared.edge_use.EdgeUse.{EdgeUse}
use Rattle.cov_valid.specs.declared.mark.Kind.{Kind}
use Rattle.cov_valid.specs.declared.mark.Mark.{Mark}
use Rattle.cov_valid.specs.Kinds.{IsFaultOf}

-- where a use may be of a kind, the mark stands for the use at its place, which is of its kind
pub record IsMarkBy (of : EdgeUse → Kind → Type 0) (uses : List EdgeUse) (m : Mark) : Type 0 where
  pub marked : EdgeUse
  pub at_place : slice_get uses m.place ≡ Some marked
  pub member : m.member ≡ marked.member
  pub kind : of marked m.kind

-- the list has exactly these marks, by ascending place
pub record AreMarksBy (of : EdgeUse → Kind → Type 0) (uses : List EdgeUse) (marks : List Mark) : Type 0 where
  pub in_order : AllPairs (λ m n. m.place < n.place) marks
  pub exact : (m : Mark) → Contains marks m ↔ IsMarkBy of uses m

-- the marks of the uses that are at fault
abbrev pub AreFaultMarks : List EdgeUse → List Mark → Type 0
AreFaultMarks uses marks = AreMarksBy (IsFaultOf uses) uses marks

-- the same uses have one list of marks
abbrev pub FaultMarksLaw : Type 0
FaultMarksLaw = (uses : List EdgeUse) (ms ns : List Mark) → AreFaultMarks uses ms → AreFaultMarks uses ns → ms ≡ ns
