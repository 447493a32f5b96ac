-- A list of uses has one list of marks.
use Rattle.std.proofs.Common.{◌≡◌, List}
use Rattle.cov_types.specs.declared.edge_use.EdgeUse.{EdgeUse}
use Rattle.cov_valid.proofs.Ascending.{same_ascending}
use Rattle.cov_valid.specs.Kinds.{IsFaultOf}
use Rattle.cov_valid.specs.Marks.{AreMarksBy, AreFaultMarks}
use Rattle.cov_valid.specs.declared.mark.Kind.{Kind}
use Rattle.cov_valid.specs.declared.mark.Mark.{Mark}

-- two lists of the marks of the same uses are one
pub AreMarksBy-unique : (of : EdgeUse → Kind → Type 0) (uses : List EdgeUse) (ms ns : List Mark) → AreMarksBy of uses ms → AreMarksBy of uses ns → ms ≡ ns
AreMarksBy-unique of uses ms ns are others =
    same_ascending (λ (m : Mark). m.place) ms ns are.in_order others.in_order (λ m h. (others.exact m).1 ((are.exact m).0 h)) (λ m h. (are.exact m).1 ((others.exact m).0 h))

pub AreFaultMarks-unique : (uses : List EdgeUse) (ms ns : List Mark) → AreFaultMarks uses ms → AreFaultMarks uses ns → ms ≡ ns
AreFaultMarks-unique uses ms ns are others = AreMarksBy-unique (IsFaultOf uses) uses ms ns are others
