use Rattle.std.proofs.Common.{◌≡◌, ℕ, ◌<◌, length, get_or, Option}
use Rattle.overlaid_laws.specs.declared.pair.Pair.{Pair}
use Rattle.cov_overlay.specs.Places.{IsPlace}
use Rattle.cov_overlay.proofs.pair_list.places_of.Given as goal

abbrev pub invariant-loop-pair : goal.invariant-loop-pair
invariant-loop-pair l = record {
  count : length l.places.items ≡ l.pair-index;
  each : (k : ℕ) (d : Option Pair) (e : Option ℕ) → k < l.pair-index → IsPlace l.pairs (get_or l.by_side k d) (get_or l.places.items k e);
}
