use Rattle.std.proofs.Common.{◌≡◌, List, ◌++◌, map}
use Rattle.cov_types.specs.declared.coord.Coord.{Coord}
use Rattle.greedy_run.specs.Run.{ring_without}
use Rattle.cov_simplify.specs.Without.{AreGone}
use Rattle.cov_simplify.proofs.without.poly_without.Given as goal

abbrev pub invariant-loop-ring : goal.invariant-loop-ring
invariant-loop-ring l = record {
  done : (removed : List Coord) → AreGone l.gone removed → l.rings.items ≡ map (ring_without removed) l.yielded;
  left : l.yielded ++ l.ring-iterator.rest.items ≡ l.fn.poly;
}
