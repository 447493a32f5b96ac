use Rattle.std.proofs.Common.{ap, subst, ◌∙◌, sym, true≢false, List, get_or, Vec, Global}
use mathlib.Core.List.{[]}
use Rattle.std.proofs.lemmas.List.{get_or_default}
use Rattle.std.specs.Prelude.{Any}
use Rattle.cov_types.specs.declared.coord.Coord.{Coord}
use Rattle.hot_pixel.specs.Centres.{Gains, HasMetCentre}
use Rattle.hot_pixel.proofs.Gains.{gains_start, gains_more, gains_all, gains_from_none}
use Rattle.hot_pixel.proofs.MetPixels.{met_kept, met_passed}
use Rattle.hot_pixel.proofs.hot_set.met_centres.Goals as goal
use Rattle.hot_pixel.proofs.hot_set.met_centres.Goals.{then-meets+in_ok-push, else-meets}

pub loop-k-init : goal.loop-k-init
loop-k-init c = subst (λ (met : List Coord). Gains [] met (λ r. Any (HasMetCentre c.args.s c.args.centres.now r) [])) (sym c.new-met.ensures.items) (gains_start (λ k r. HasMetCentre c.args.s c.args.centres.now r k) [])

pub loop-k-preserved : goal.loop-k-preserved
loop-k-preserved c =
    let k = get_or c.args.near.now c.loop-k.k-index 0 in
    let within = c.requires c.loop-k.k-index 0 c.loop-k-test.true in
    gains_more (λ j r. HasMetCentre c.args.s c.args.centres.now r j) [] c.loop-k.met.items c.if-meets.met.items c.args.near.now c.loop-k.k-index k c.loop-k-test.true (get_or_default c.args.near.now c.loop-k.k-index 0 k c.loop-k-test.true)
    c.loop-k.invariant
    (elim c.if-meets.branch [
      | then-meets+in_ok-push w ↦ met_kept c.args.s c.args.centres.now k _ within (get_or_default c.args.centres.now k _ _ within) _ _ (ap (λ (v : Vec Coord Global). v.items) w.met-is ∙ w.in_ok-push.ensures.items) (c.meets.ensures.0 w.if-meets.true)
      | else-meets w ↦ met_passed c.args.s c.args.centres.now k _ within (get_or_default c.args.centres.now k _ _ within) _ _ (ap (λ (v : Vec Coord Global). v.items) w.met-is) (λ h. true≢false (sym (c.meets.ensures.1 h) ∙ w.if-meets.false))
    ])

pub returns : goal.returns
returns c =
    gains_from_none _ [] c.loop-k.met.items (λ i. [])
    (gains_all (λ k r. HasMetCentre c.args.s c.args.centres.now r k) [] c.loop-k.met.items c.args.near.now c.loop-k.k-index c.loop-k-test.false c.loop-k.invariant)
