use Rattle.std.proofs.Common.{take}
use Rattle.cov_types.specs.Rings.{poly_rings, Adds}
use Rattle.cov_types.proofs.outline.add_poly.Given as goal

abbrev pub invariant-loop-ring : goal.invariant-loop-ring
invariant-loop-ring l = Adds l.fn.outline l.outline (poly_rings l.member (take l.ring-index l.poly))
