use Rattle.std.proofs.Common.{◌≡◌, List, ◌++◌, map}
use Rattle.cov_types.specs.declared.coord.Coord.{Coord}
use Rattle.cov_simplify.specs.Without.{AreGone, member_without}
use Rattle.cov_simplify.proofs.without.coverage_without.Given as goal

abbrev pub invariant-loop-member : goal.invariant-loop-member
invariant-loop-member l = record {
  done : (removed : List Coord) → AreGone l.gone removed → l.members.items ≡ map (member_without removed) l.yielded;
  left : l.yielded ++ l.member-iterator.rest.items ≡ l.fn.c;
}
