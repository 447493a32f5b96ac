-- The sides of a region, and the members that hold what is beyond them.
use Rattle.std.specs.Prelude.{◌≡◌, ℕ, ◌*◌, ◌<◌, ◌↔◌, List, All, Contains, length, Some, slice_get}
use Rattle.cov_types.specs.declared.seg.Seg.{Seg}
use Rattle.plane.specs.Region.{AreRegions}
use Rattle.arrangement.specs.Overlay.{Overlay, label_of, region_at}
use Rattle.half_edge.specs.Side.{across}

-- exactly the sides of the region
abbrev pub AreSidesOf : Overlay → ℕ → List ℕ → Type 0
AreSidesOf o r sides = (n : ℕ) → Contains sides n ↔ ((n < 2 * length o.edges) × (region_at o n ≡ r))

-- for each number that may be that of a region between the edges a list of sides, and for that of a region exactly its sides
pub record AreSidesByRegion (edges : List Seg) (groups : List (List ℕ)) : Type 0 where
  pub count : length groups ≡ 2 * length edges
  pub within : (r : ℕ) (sides : List ℕ) → slice_get groups r ≡ Some sides → All (λ n. n < 2 * length edges) sides
  pub each : (o : Overlay) → o.edges ≡ edges → AreRegions o.edges o.numbers → (r : ℕ) (sides : List ℕ) → slice_get groups r ≡ Some sides → AreSidesOf o r sides

-- the member holds the region across one of the sides
pub record IsHeldBeyond (o : Overlay) (sides : List ℕ) (member : ℕ) : Type 0 where
  pub side : ℕ
  pub listed : Contains sides side
  pub holds : Contains (label_of o (region_at o (across side))) member

-- the list has exactly these members
abbrev pub AreHeldBeyond : Overlay → List ℕ → List ℕ → Type 0
AreHeldBeyond o sides members = (member : ℕ) → Contains members member ↔ IsHeldBeyond o sides member
