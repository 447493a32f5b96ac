use Rattle.std.proofs.Common.{◌≡◌, take}
use Rattle.hot_pixel.proofs.Keyed.{items}
use Rattle.hot_pixel.proofs.along_curve.segments_along_curve.Given as goal

abbrev pub invariant-loop-s : goal.invariant-loop-s
invariant-loop-s l = items l.keyed.items ≡ take l.s-index l.segs
