use Rattle.std.proofs.Common.{◌≡◌, ℕ, ◌-◌, ◌<◌, get_or, refl, sym, subst, arith, Some}
use Rattle.std.specs.Prelude.{slice_get}
use Rattle.std.proofs.lemmas.Bool.{iff_false}
use Rattle.std.proofs.lemmas.List.{get_or_default}
use Rattle.cov_valid.proofs.Peers.{twice_after, beside_twice}
use Rattle.cov_valid.proofs.among.is_twice.Goals as goal
use Rattle.cov_valid.proofs.among.is_twice.Goals.{then-k-gt0+else-is_at, else-k-gt0}
use Rattle.cov_valid.specs.Among.{IsTwice}

pub returns : goal.returns
returns c = λ m.
    let users = c.args.users.now in
    let k = c.args.k in
    let member : ℕ = get_or users k 0 in
    let same : get_or users k m ≡ member = get_or_default users k m 0 c.requires.within in
    let not_before : ¬ ((0 < k) × (slice_get users (k - 1) ≡ Some member)) =
    elim c.if-k-gt0.branch [ then-k-gt0+else-is_at w ↦ λ h. iff_false w.is_at.ensures w.if-is_at.false h.1 | else-k-gt0 w ↦ λ h. omega (arith, h.0, w.if-k-gt0.false) ] in (
      λ h. subst (IsTwice users) (sym same) (twice_after users k member 0 c.requires.within refl (c.is_at-2.ensures.0 h)),
      λ twice. c.is_at-2.ensures.1 (beside_twice users k member 0 c.requires.ascending c.requires.within refl (subst (IsTwice users) same twice) not_before),
    )
