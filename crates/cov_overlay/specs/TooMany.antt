-- When two coverages have too many members or too many pairs for an overlay.
use Rattle.std.specs.Prelude.{◌≡◌, ℕ, ◌+◌, ◌<◌, ◌≤◌, ◌^◌, ◌⊎◌, List, length}
use Rattle.cov_types.specs.Coverage.{Members}
use Rattle.overlaid_laws.specs.declared.pair.Pair.{Pair}
use Rattle.overlaid_laws.specs.Overlaid.{AreJointPairs}
use Rattle.cov_overlay.specs.declared.error.OverlayError.{OverlayError}
use Rattle.cov_overlay.specs.declared.error.OverlayError.TheVariants.{TooMany, NoMemory}

-- both together have this many members, 2 ^ 32 or more
pub record HasManyMembers (a b : Members) (count : ℕ) : Type 0 where
  pub many : 2 ^ 32 ≤ length a + length b
  pub counted : count ≡ length a + length b

-- both together have fewer members, and this many pairs, 2 ^ 32 or more
pub record HasManyPairs (a b : Members) (count : ℕ) : Type 0 where
  pub few : length a + length b < 2 ^ 32
  pub pairs : List Pair
  pub are_pairs : AreJointPairs a b pairs
  pub many : 2 ^ 32 ≤ length pairs
  pub counted : count ≡ length pairs

-- why the two have no overlay; memory may be wanting at any time
abbrev pub IsCause : Members → Members → OverlayError → Type 0
IsCause a b (TooMany count) = HasManyMembers a b count ⊎ HasManyPairs a b count
IsCause a b NoMemory = Unit {0}
