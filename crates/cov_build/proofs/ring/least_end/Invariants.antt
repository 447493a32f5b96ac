use Rattle.std.proofs.Common.{◌≡◌, ◌<◌, ℕ, false, length, get_or}
use Rattle.cov_types.specs.Coord.{is_before}
use Rattle.cov_build.specs.Walks.{target_of}
use Rattle.cov_build.proofs.ring.least_end.Given as goal

abbrev pub invariant-loop-i : goal.invariant-loop-i
invariant-loop-i l = record {
  within : l.least < length l.way;
  least : (k : ℕ) → k < l.i → is_before (target_of l.a (get_or l.way k 0)) (target_of l.a (get_or l.way l.least 0)) ≡ false;
}
