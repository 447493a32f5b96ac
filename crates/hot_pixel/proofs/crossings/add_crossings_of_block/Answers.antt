use Rattle.std.proofs.Common.{arith, ◌+◌}
use Rattle.hot_pixel.proofs.Crossed.{crossed_none, crossed_then, crossed_past}
use Rattle.hot_pixel.proofs.NearBoxes.{near_one}
use Rattle.hot_pixel.proofs.crossings.add_crossings_of_block.Goals as goal

pub loop-i-init : goal.loop-i-init
loop-i-init c = crossed_none c.args.segs.now c.args.first c.args.centres.now.items

pub add_crossings_of-requires : goal.add_crossings_of-requires
add_crossings_of-requires c = record {
  in_range = c.requires.in_range;
  boxes = c.requires.boxes;
  within = omega (arith, c.requires.within);
  near = near_one c.args.boxes.now c.args.first c.args.past c.loop-i.i c.args.near.now (omega arith) c.loop-i-test.true c.requires.near;
}

pub loop-i-preserved : goal.loop-i-preserved
loop-i-preserved c = crossed_then c.args.segs.now c.args.first c.loop-i.i (c.loop-i.i + 1) _ _ _ (omega arith) (omega arith) c.loop-i.invariant c.in_ok-add_crossings_of.ensures

pub returns : goal.returns
returns c = crossed_past c.args.segs.now c.args.first c.loop-i.i c.args.past _ _ (omega arith) c.loop-i.invariant
