use Rattle.std.proofs.Common.{◌<◌, arith}
use Rattle.gap_width.proofs.Depths.{divides_greater, divides_self, divides_zero}
use Rattle.gap_width.proofs.depth.common_divisor.Goals as goal

pub loop-lesser-preserved : goal.loop-lesser-preserved
loop-lesser-preserved c =
    let so_far = c.loop-lesser.invariant in
    let some : 0 < c.loop-lesser.lesser = omega arith in
    record {
      some = omega arith;
      greater_small = omega arith;
      lesser_small = omega arith;
      divides = λ d first rest. so_far.divides d (divides_greater d c.loop-lesser.greater c.loop-lesser.lesser some first rest) first;
    }

pub returns-clause-first : goal.returns-clause-first
returns-clause-first c = (c.loop-lesser.invariant.divides c.loop-lesser.greater (divides_self c.loop-lesser.greater) (divides_zero c.loop-lesser.greater c.loop-lesser.lesser (omega arith))).0

pub returns-clause-second : goal.returns-clause-second
returns-clause-second c = (c.loop-lesser.invariant.divides c.loop-lesser.greater (divides_self c.loop-lesser.greater) (divides_zero c.loop-lesser.greater c.loop-lesser.lesser (omega arith))).1
