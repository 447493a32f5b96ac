-- The rings of a boundary.
use Rattle.std.specs.Prelude.{◌≡◌, ℕ, ◌+◌, ◌*◌, ◌<◌, Bool, true, false, not, cond, List, [], ◌∷◌, length, drop, map, flat_map, All, Contains, Some, slice_get, slice_index, slice_index_or}
use Rattle.std.specs.List.{remove}
use Rattle.std.specs.List.Sorted.{IsPermutation, IsSortedBy}
use Rattle.std.specs.Ordering.{is_lt}
use Rattle.cov_types.specs.declared.coord.Coord.{Coord}
use Rattle.cov_types.specs.declared.seg.Seg.{Seg}
use Rattle.cov_types.specs.Coord.{is_before, points_cmp}
use Rattle.cov_types.specs.Uses.{sides}
use Rattle.sector_laws.specs.Sector.{HalfEdge, twin, is_before_by_angle, IsHalfEdge, IsNextNumber, IsPlanar, AreDistinct}
use Rattle.shell_laws.specs.Ring.{IsClosed, last_of}
use Rattle.part_polygons.specs.Inside.{points_of}
use Rattle.sound_polygons.specs.Cleaned.{BeginsAtLeast}
use Rattle.cov_build.specs.declared.boundary.BoundaryEdge.{BoundaryEdge}
use Rattle.cov_build.specs.Boundaries.{way_round, boundary_edges}
use Rattle.cov_build.specs.Walks.{ways_back, target_of}

-- the half-edge of edge k that has the part on its right
abbrev pub outside_of : ℕ → Bool → ℕ
outside_of k above = cond above (2 * k + 1) (2 * k)

-- the half-edge with the number has the part on its right
pub record IsOutside (boundary : List BoundaryEdge) (n : ℕ) : Type 0 where
  pub place : ℕ
  pub edge : BoundaryEdge
  pub at_place : slice_get boundary place ≡ Some edge
  pub is : n ≡ outside_of place edge.above

-- distinct edges that meet in ends alone, of which each half-edge that has the part on its right leads to another such one
pub record IsBoundary (boundary : List BoundaryEdge) : Type 0 where
  pub some : 0 < length boundary
  pub planar : IsPlanar (boundary_edges boundary)
  pub distinct : AreDistinct (boundary_edges boundary)
  pub kept : (n m : ℕ) → IsNextNumber (boundary_edges boundary) n m → IsOutside boundary n → IsOutside boundary m

-- no half-edge of the walk ends at an earlier vertex than the one at the place
abbrev pub IsLeastEnd : List Seg → List ℕ → ℕ → Type 0
IsLeastEnd edges way place = (n : ℕ) → Contains way n → is_before (target_of edges n) (target_of edges (slice_index way place)) ≡ false

-- the ring goes back along the half-edges of the walk, and begins at its least point
pub record IsRingBack (edges : List Seg) (way : List ℕ) (points : List Coord) : Type 0 where
  pub sides : IsPermutation (sides points) (ways_back edges way)
  pub least : BeginsAtLeast points
  pub some : 0 < length points

-- the ring has the points of a closed way of half-edges, which begins with the twin of the one with the number
pub record IsClosedFrom (edges : List Seg) (n : ℕ) (points : List Coord) : Type 0 where
  pub first : HalfEdge
  pub way : List HalfEdge
  pub points_are : points ≡ points_of (first ∷ way)
  pub closed : IsClosed edges (first ∷ way)
  pub back : IsHalfEdge edges n (twin first)

-- whether the way straight down from the vertex where a closed way begins is on its right
abbrev pub is_open_down : List HalfEdge → Bool
is_open_down [] = false
is_open_down (h ∷ way) = not (is_before_by_angle (twin (last_of h way)) h)

-- the rings have the points of closed ways, and if one of these is open down, the one at the place of the shell is
pub record AreClosedRings (edges : List Seg) (shell : ℕ) (rings : List (List Coord)) : Type 0 where
  pub ways : List (List HalfEdge)
  pub points_are : rings ≡ map points_of ways
  pub closed : All (IsClosed edges) ways
  pub told : (way : List HalfEdge) → Contains ways way → is_open_down way ≡ true → is_open_down (slice_index_or ways shell []) ≡ true

-- the rings have points, begin at their least ones, and go back along these half-edges
pub record AreRingsBack (edges : List Seg) (passed : List ℕ) (rings : List (List Coord)) : Type 0 where
  pub sides : IsPermutation (flat_map sides rings) (ways_back edges passed)
  pub least : All BeginsAtLeast rings
  pub some : All (λ points. 0 < length points) rings

-- the rings have points, begin at their least ones, and their sides are the ways round the boundary, each once
pub record AreBoundaryRings (boundary : List BoundaryEdge) (rings : List (List Coord)) : Type 0 where
  pub sides : IsPermutation (flat_map sides rings) (map way_round boundary)
  pub least : All BeginsAtLeast rings
  pub some : All (λ points. 0 < length points) rings

-- the rings are in order from the second on
abbrev pub AreHolesSorted : List (List Coord) → Type 0
AreHolesSorted rings = IsSortedBy (λ g h. is_lt (points_cmp g h)) (drop 1 rings)

-- the ring at the place comes first, and then the others in some order
pub record IsInFront (place : ℕ) (rings out : List (List Coord)) : Type 0 where
  pub others : List (List Coord)
  pub is : out ≡ slice_index_or rings place [] ∷ others
  pub same : IsPermutation (remove rings place) others

-- the polygon has the rings of the boundary, the shell first, and its holes ascend
pub record IsBoundaryPolygon (boundary : List BoundaryEdge) (rings : List (List Coord)) : Type 0 where
  pub bounds : AreBoundaryRings boundary rings
  pub holes : AreHolesSorted rings
  pub closed : AreClosedRings (boundary_edges boundary) 0 rings
