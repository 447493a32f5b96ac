use Rattle.std.proofs.Common.{◌≡◌, List, ◌++◌, map}
use Rattle.cov_types.specs.declared.coord.Coord.{Coord}
use Rattle.cov_simplify.specs.Without.{AreGone, poly_without}
use Rattle.cov_simplify.proofs.without.member_without.Given as goal

abbrev pub invariant-loop-poly : goal.invariant-loop-poly
invariant-loop-poly l = record {
  done : (removed : List Coord) → AreGone l.gone removed → l.polys.items ≡ map (poly_without removed) l.yielded;
  left : l.yielded ++ l.poly-iterator.rest.items ≡ l.fn.member;
}
