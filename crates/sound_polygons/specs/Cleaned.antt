-- What clean answers: the polygons of the owners of regions, in canonical order.
use Rattle.std.specs.Prelude.{◌≡◌, ℕ, Bool, false, IsTrue, List, [], ◌∷◌, length, drop, All, AllPairs, Contains, Option, Some, slice_get}
use Rattle.std.specs.Ordering.{is_lt}
use Rattle.cov_types.specs.declared.coord.Coord.{Coord}
use Rattle.cov_types.specs.Coord.{is_before, points_cmp}
use Rattle.cov_types.specs.Coverage.{Members}
use Rattle.cov_types.specs.Uses.{uses_of}
use Rattle.arrangement.specs.Overlay.{Overlay, IsRegion, IsSnappedOverlay}
use Rattle.region_owners.specs.Owner.{Rule, AreOwners}
use Rattle.sound_polygons.specs.Parts.{IsPartOf, IsSound}

-- ---- canonical order

-- the ring begins at its least point
abbrev pub BeginsAtLeast : List Coord → Type 0
BeginsAtLeast points = (p q : Coord) → slice_get points 0 ≡ Some p → Contains points q → is_before q p ≡ false

-- the shell of a polygon
abbrev pub shell_of : List (List Coord) → List Coord
shell_of [] = []
shell_of (shell ∷ holes) = shell

-- the ring comes before the other, by their lists of points
abbrev pub is_ring_before : List Coord → List Coord → Bool
is_ring_before g h = is_lt (points_cmp g h)

-- each ring begins at its least point, and the holes ascend
pub record IsPolyCanonical (rings : List (List Coord)) : Type 0 where
  pub first_least : All BeginsAtLeast rings
  pub holes : AllPairs (λ g h. IsTrue (is_ring_before g h)) (drop 1 rings)

-- the polygons are canonical, and ascend by their shells
pub record IsMemberCanonical (polys : List (List (List Coord))) : Type 0 where
  pub each : All IsPolyCanonical polys
  pub shells : AllPairs (λ a b. IsTrue (is_ring_before (shell_of a) (shell_of b))) polys

-- ---- polygons of owners

-- the polygon is sound for the part of the region r
pub record IsSoundFor (o : Overlay) (owners : ℕ → Option ℕ) (i r : ℕ) (rings : List (List Coord)) : Type 0 where
  pub inside : ℕ → Bool
  pub part : IsPartOf o owners i r inside
  pub sound : IsSound o inside rings

-- a region that the member owns
pub record IsOwned (o : Overlay) (owners : ℕ → Option ℕ) (i r : ℕ) : Type 0 where
  pub region : IsRegion o.edges r
  pub owned : owners r ≡ Some i

-- the polygons correspond one to one to the parts of the regions that the member owns, and are canonical
pub record ArePolygonsOf (o : Overlay) (owners : ℕ → Option ℕ) (i : ℕ) (polys : List (List (List Coord))) : Type 0 where
  pub each : (rings : List (List Coord)) → Contains polys rings → (r : ℕ) × (IsOwned o owners i r × IsSoundFor o owners i r rings)
  pub every : (r : ℕ) → IsOwned o owners i r → (rings : List (List Coord)) × (Contains polys rings × IsSoundFor o owners i r rings)
  pub one : (r m n : ℕ) (a b : List (List Coord)) → slice_get polys m ≡ Some a → slice_get polys n ≡ Some b
      → IsSoundFor o owners i r a → IsSoundFor o owners i r b → m ≡ n
  pub canonical : IsMemberCanonical polys

-- each of so many members has the polygons of the regions that it owns
pub record IsBuilt (o : Overlay) (owners : ℕ → Option ℕ) (members : ℕ) (out : Members) : Type 0 where
  pub count : length out ≡ members
  pub each : (i : ℕ) (polys : List (List (List Coord))) → slice_get out i ≡ Some polys → ArePolygonsOf o owners i polys

-- out is the coverage, cleaned by the rule from this state at the gap width w
pub record IsCleaned {State : Type 0} (members : Members) (rule : Rule State) (state : State) (w : ℕ) (out : Members) : Type 0 where
  pub overlay : Overlay
  pub is_overlay : IsSnappedOverlay (uses_of members) (length members) overlay
  pub owners : ℕ → Option ℕ
  pub are_owners : AreOwners rule state overlay w owners
  pub built : IsBuilt overlay owners (length members) out
