use Rattle.std.proofs.Common.{ap, ◌∙◌, Vec, Global, get_or}
use Rattle.std.proofs.lemmas.List.{get_or_default}
use Rattle.cov_types.specs.declared.coord.Coord.{Coord}
use Rattle.hot_pixel.specs.Centres.{CrossAt}
use Rattle.hot_pixel.proofs.Crossed.{crossed_near}
use Rattle.hot_pixel.proofs.Gains.{gains_start, gains_more, gains_all, gains_found, gains_not_found}
use Rattle.hot_pixel.proofs.crossings.add_crossings_of.Goals as goal
use Rattle.hot_pixel.proofs.crossings.add_crossings_of.Goals.{in-Some+in_ok-push, in_default}

pub loop-k-init : goal.loop-k-init
loop-k-init c = gains_start (λ k r. CrossAt c.args.segs.now c.args.i k r) c.args.centres.now.items

pub loop-k-preserved : goal.loop-k-preserved
loop-k-preserved c =
    let k = get_or c.args.near.now c.loop-k.k-index 0 in
    gains_more (λ j r. CrossAt c.args.segs.now c.args.i j r) _ _ _ c.args.near.now c.loop-k.k-index k c.loop-k-test.true (get_or_default c.args.near.now c.loop-k.k-index 0 k c.loop-k-test.true) c.loop-k.invariant
    (elim c.match-crossed_pixel_before.branch [
      | in-Some+in_ok-push w ↦ gains_found (CrossAt c.args.segs.now c.args.i k) _ _ w.in-Some.r (ap (λ (v : Vec Coord Global). v.items) w.centres-is ∙ w.in_ok-push.ensures.items) w.in-Some.ensures
      | in_default w ↦ gains_not_found (CrossAt c.args.segs.now c.args.i k) _ _ (ap (λ (v : Vec Coord Global). v.items) w.centres-is) (λ r p. w.in_default.not-Some r ((c.crossed_pixel_before.ensures r).1 p))
    ])

pub returns : goal.returns
returns c =
    crossed_near c.args.segs.now c.args.boxes.now c.args.i c.args.near.now _ _ c.requires.boxes c.requires.near
    (gains_all (λ k r. CrossAt c.args.segs.now c.args.i k r) _ _ c.args.near.now c.loop-k.k-index c.loop-k-test.false c.loop-k.invariant)
