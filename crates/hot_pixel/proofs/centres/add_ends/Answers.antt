use Rattle.hot_pixel.specs.Centres.{HasEnd}
use Rattle.hot_pixel.proofs.Gains.{gains_start, gains_more, gains_all, gains_ends}
use Rattle.hot_pixel.proofs.centres.add_ends.Goals as goal

pub loop-s-init : goal.loop-s-init
loop-s-init c = gains_start HasEnd c.args.centres.now.items

pub loop-s-preserved : goal.loop-s-preserved
loop-s-preserved c =
    gains_more HasEnd _ _ _ c.args.segs.now c.loop-s.s-index _ c.loop-s-test.true c.s-item.is c.loop-s.invariant
    (gains_ends c.s-item.result _ _ _ c.in_ok-push.ensures.items c.in_ok-push-2.ensures.items)

pub returns : goal.returns
returns c = gains_all HasEnd _ _ c.args.segs.now c.loop-s.s-index c.loop-s-test.false c.loop-s.invariant
