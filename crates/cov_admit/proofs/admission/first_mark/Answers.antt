-- The first of the marks, if there is one.
use Rattle.std.proofs.Common.{◌≡◌, sym, ◌∙◌, ap, subst, List, MatchOption, Option}
use Rattle.std.specs.Prelude.{slice_get}
use Rattle.cov_types.specs.Uses.{uses_of}
use Rattle.cov_valid.specs.declared.mark.Mark.{Mark}
use Rattle.plane.specs.Validity.{IsValid}
use Rattle.cov_admit.specs.FirstMark.{IsFirstMark}
use Rattle.cov_admit.proofs.FirstMarks.{first_or_valid, valid_by_corners}
use Rattle.cov_admit.proofs.admission.first_mark.Goals as goal

pub returns-then-branch : goal.returns-then-branch
returns-then-branch c = valid_by_corners c.args.c.now c.requires (c.in_ok-are_corners_faultless.ensures.faultless c.if-branch.true)

pub returns : goal.returns
returns c =
    let members = c.args.c.now in
    let list : List Mark = c.in_ok-marks.marks.items in
    let is : c.copied.result ≡ slice_get list 0 = c.copied.ensures ∙ c.first.ensures.value ∙ ap (λ (l : List Mark). slice_get l 0) c.deref.ensures.value in
    subst (λ (found : Option Mark). MatchOption found (IsValid (uses_of members)) (λ m. IsFirstMark members m × ¬ IsValid (uses_of members))) (sym is) (first_or_valid members c.requires list c.in_ok-marks.ensures.exact)
