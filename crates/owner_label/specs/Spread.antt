-- What is known while labels spread from region to region.
use Rattle.std.specs.Prelude.{◌≡◌, ◌⊎◌, ℕ, ◌*◌, ◌<◌, true, false, List, [], ◌∷◌, ◌++◌, length, Contains, count_by, Some, slice_get, slice_set, slice_index_or}
use Rattle.owner_label.specs.declared.spread.Spread.{Spread}
use Rattle.half_edge.specs.Side.{across}
use Rattle.owner_label.specs.Sided.{Sided, region_on, IsRegionLabel}

-- the region was reached
abbrev pub IsReached : Spread → ℕ → Type 0
IsReached spread r = slice_index_or spread.reached.items r false ≡ true

-- the region is reached with its label, and put at the end of the queue
pub record IsReachedNow (before : Spread) (r : ℕ) (label : List ℕ) (after : Spread) : Type 0 where
  pub labels : after.labels ≡ slice_set before.labels r label
  pub reached : after.reached.items ≡ slice_set before.reached.items r true
  pub queue : after.queue.items ≡ before.queue.items ++ r ∷ []

-- the regions that were reached have their labels, and they are queued once each
pub record IsSpread (s : Sided) (spread : Spread) : Type 0 where
  pub labels : length spread.labels ≡ length s.regions
  pub reached : length spread.reached.items ≡ length s.regions
  pub right : (r : ℕ) (label : List ℕ) → IsReached spread r → slice_get spread.labels r ≡ Some label → IsRegionLabel s r label
  pub queued : (r : ℕ) → IsReached spread r → Contains spread.queue.items r
  pub only : (r : ℕ) → Contains spread.queue.items r → IsReached spread r
  pub once : length spread.queue.items ≡ count_by (λ b. b) spread.reached.items

-- what was reached stays so, and what was queued stays in its place
pub record Grows (before after : Spread) : Type 0 where
  pub reached : (r : ℕ) → IsReached before r → IsReached after r
  pub queue : (i r : ℕ) → slice_get before.queue.items i ≡ Some r → slice_get after.queue.items i ≡ Some r

-- across each of the sides a region was reached
abbrev pub AreReachedAcross : Sided → Spread → List ℕ → Type 0
AreReachedAcross s spread sides = (n : ℕ) → Contains sides n → IsReached spread (region_on s (across n))

-- across each side of the region one was reached
abbrev pub IsLeft : Sided → Spread → ℕ → Type 0
IsLeft s spread r = (n : ℕ) → n < length s.regions → region_on s n ≡ r → IsReached spread (region_on s (across n))

-- the region of some side was reached, or there is no edge
abbrev pub IsBegun : Sided → Spread → Type 0
IsBegun s spread = (s.edges ≡ []) ⊎ ((n : ℕ) × ((n < 2 * length s.edges) × IsReached spread (region_on s n)))
