use Rattle.std.proofs.Common.{◌*◌, length}
use Rattle.std.specs.Prelude.{min}
use Rattle.hot_pixel.specs.Centres.{Gains, HasCrossing}
use Rattle.hot_pixel.proofs.crossings.add_crossings.Given as goal

abbrev pub invariant-loop-block : goal.invariant-loop-block
invariant-loop-block l = Gains l.fn.centres.items l.centres.items (HasCrossing l.segs 0 (min (length l.segs) (l.block * 8)))
