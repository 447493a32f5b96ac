-- The places of the pairs of sides in a list of pairs.
use Rattle.std.specs.Prelude.{◌≡◌, ℕ, ◌<◌, List, length, Option, Some, None}
use Rattle.std.specs.List.{slice_index_or}
use Rattle.overlaid_laws.specs.declared.pair.Pair.{Pair}
use Rattle.overlaid_laws.specs.Overlaid.{IsOwnedAt}

-- the owner is the place of the pair in the list, and none where there is no pair
abbrev pub IsPlace : List Pair → Option Pair → Option ℕ → Type 0
IsPlace pairs None owner = owner ≡ None
IsPlace pairs (Some pair) owner = IsOwnedAt pairs pair owner

-- each owner is the place of the pair of its side
pub record ArePlaces (pairs : List Pair) (by_side : List (Option Pair)) (owners : List (Option ℕ)) : Type 0 where
  pub count : length owners ≡ length by_side
  pub each : (k : ℕ) (d : Option Pair) (e : Option ℕ) → k < length by_side → IsPlace pairs (slice_index_or by_side k d) (slice_index_or owners k e)
