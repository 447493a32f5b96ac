use Rattle.hot_pixel.specs.Centres.{Gains, HasCrossing}
use Rattle.hot_pixel.proofs.crossings.add_crossings_of_block.Given as goal

abbrev pub invariant-loop-i : goal.invariant-loop-i
invariant-loop-i l = Gains l.fn.centres.items l.centres.items (HasCrossing l.segs l.first l.i)
