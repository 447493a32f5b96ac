use Rattle.std.proofs.Common.{◌≡◌, take}
use Rattle.half_edge.proofs.AlongCurve.{keyless}
use Rattle.half_edge.proofs.noded.along_curve.Given as goal

abbrev pub invariant-loop-e : goal.invariant-loop-e
invariant-loop-e l = keyless l.keyed.items ≡ take l.e-index l.edges
