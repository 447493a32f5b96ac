use Rattle.std.proofs.Common.{◌≡◌, take}
use Rattle.hot_pixel.proofs.Keyed.{items}
use Rattle.hot_pixel.proofs.along_curve.points_along_curve.Given as goal

abbrev pub invariant-loop-p : goal.invariant-loop-p
invariant-loop-p l = items l.keyed.items ≡ take l.p-index l.points
