-- What the list of the marks of a coverage tells of it.
use Rattle.std.proofs.Common.{◌≡◌, ◌∙◌, sym, ap, List, [], ◌∷◌, refl, arith}
use Rattle.std.specs.Prelude.{All, Contains, Some, MatchOption, slice_get}
use Rattle.std.proofs.lemmas.Option.{slice_get-get_or, slice_get_within, get_or_from_slice_get, same_Some}
use Rattle.cov_types.specs.Coverage.{Members, IsFormed}
use Rattle.cov_types.specs.Range.{IsSegInRange}
use Rattle.cov_types.specs.Uses.{uses_of}
use Rattle.cov_types.specs.declared.edge_use.EdgeUse.{EdgeUse}
use Rattle.cov_types.proofs.AllUses.{uses-in_range}
use Rattle.cov_types.proofs.EvenEnds.{even-ends}
use Rattle.crossing_laws.proofs.Lists.{contains_here}
use Rattle.cov_valid.specs.Corners.{AreCornersFaultless}
use Rattle.cov_valid.specs.Kinds.{IsFaultOf}
use Rattle.cov_valid.specs.Marks.{IsMarkBy, AreFaultMarks}
use Rattle.cov_valid.specs.declared.mark.Mark.{Mark}
use Rattle.cov_valid.proofs.Unique.{AreFaultMarks-unique}
use Rattle.plane.specs.Validity.{IsValid}
use Rattle.cov_admit.specs.FirstMark.{IsFirstMark}
use Rattle.cov_admit.proofs.Admitted.{faultless_valid}
use Rattle.cov_admit.proofs.Corners.{corners_valid}
use Rattle.cov_admit.proofs.Refused.{valid_faultless}

module _ (members : Members) (formed : IsFormed members) where
  abbrev uses : List EdgeUse
  uses = uses_of members

  uses_in_range : All (λ (u : EdgeUse). IsSegInRange u.seg) uses
  uses_in_range = uses-in_range members formed.in_range

  -- the coverage is valid where its corners tell
  pub valid_by_corners : AreCornersFaultless uses → IsValid uses
  valid_by_corners corners = corners_valid uses uses_in_range (even-ends members) corners

  -- without marks the coverage is valid
  valid_by_none : AreFaultMarks uses [] → IsValid uses
  valid_by_none are = faultless_valid uses uses_in_range (even-ends members) (λ u has kind fault. (
      let at : slice_get uses has.0 ≡ Some u = slice_get-get_or uses has.0 u has.1 ∙ ap (λ (v : EdgeUse). Some v) has.2 in
      let m : Mark = record { member = u.member; place = has.0; kind = kind } in
      let listed = (are.exact m).1 (record { marked = u; at_place = at; member = refl; kind = fault }) in
      omega (arith, listed.1)))

  -- with a mark it is not
  not_valid_by_mark : (m : Mark) → IsMarkBy (IsFaultOf uses) uses m → ¬ IsValid uses
  not_valid_by_mark m mark valid =
      let u : EdgeUse = mark.marked in
      let has : Contains uses u = (m.place, slice_get_within uses m.place u mark.at_place, get_or_from_slice_get uses m.place u u mark.at_place) in
      valid_faultless uses uses_in_range valid u has m.kind mark.kind

  first_of_marks : (m : Mark) (ms : List Mark) → AreFaultMarks uses (m ∷ ms) → IsFirstMark members m
  first_of_marks m ms are = record {
    marks = m ∷ ms;
    are_marks = are;
    first = refl;
  }

  pub first_or_valid : (marks : List Mark) → AreFaultMarks uses marks → MatchOption (slice_get marks 0) (IsValid uses) (λ m. IsFirstMark members m × ¬ IsValid uses)
  first_or_valid [] are = valid_by_none are
  first_or_valid (m ∷ ms) are = (first_of_marks m ms are, not_valid_by_mark m ((are.exact m).0 (contains_here m ms)))

-- a coverage has one first mark
pub one_first_mark : (members : Members) (m n : Mark) → IsFirstMark members m → IsFirstMark members n → m ≡ n
one_first_mark members m n first second =
    let same = AreFaultMarks-unique (uses_of members) first.marks second.marks first.are_marks second.are_marks in
    same_Some m n (sym first.first ∙ ap (λ (l : List Mark). slice_get l 0) same ∙ second.first)
