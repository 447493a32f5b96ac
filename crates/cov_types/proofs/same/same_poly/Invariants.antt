use Rattle.std.proofs.Common.{◌≡◌, take}
use Rattle.cov_types.proofs.same.same_poly.Given as goal

abbrev pub invariant-loop-i : goal.invariant-loop-i
invariant-loop-i l = take l.i l.a ≡ take l.i l.b
