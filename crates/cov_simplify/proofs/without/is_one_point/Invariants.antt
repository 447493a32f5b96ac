use Rattle.std.proofs.Common.{◌≡◌, ℕ, suc, ◌<◌, true, get_or}
use Rattle.cov_types.specs.declared.coord.Coord.{Coord}
use Rattle.cov_types.specs.Coord.{is_same_coord}
use Rattle.cov_simplify.proofs.without.is_one_point.Given as goal

abbrev pub invariant-loop-i : goal.invariant-loop-i
invariant-loop-i l = (k : ℕ) (d : Coord) → suc k < l.i → is_same_coord (get_or l.points k d) (get_or l.points (suc k) d) ≡ true
