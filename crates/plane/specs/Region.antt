-- Regions: the sides of edges, and what is joined with their side points.
use Rattle.std.specs.Prelude.{◌≡◌, ℕ, ◌*◌, ◌≤◌, ◌^◌, List, [], ◌∷◌, length, flat_map, Some, slice_get, slice_index, pos}
use Rattle.std.proofs.Common.{lit≤}
use Rattle.cov_types.specs.declared.seg.Seg.{Seg}
use Rattle.plane.specs.Joined.{Joined}
use Rattle.plane.specs.Point.{Point}
use Rattle.plane.specs.Segment.{upper, lower}

-- the side points of the edges: side 2k is the upper side of edge k, side 2k + 1 its lower side
abbrev pub side_points : List Seg → List Point
side_points edges = flat_map (λ e. upper e ∷ lower e ∷ []) edges

-- n is a side, and p its side point
abbrev pub IsSide : List Seg → ℕ → Point → Type 0
IsSide edges n p = slice_get (side_points edges) n ≡ Some p

-- a point past the range
abbrev pub far_point : Point
far_point = record { x = pos (2 ^ 30); y = pos 0; d = 1; positive = lit≤ tt }

-- p is outer: joined with the point past the range
abbrev pub IsOuter : List Seg → Point → Type 0
IsOuter edges p = Joined edges p far_point

-- n is a side whose side point is joined with p
pub record IsJoinedSide (edges : List Seg) (p : Point) (n : ℕ) : Type 0 where
  pub at : Point
  pub side : IsSide edges n at
  pub joined : Joined edges p at

-- r is the region of p: the least side whose side point is joined with p
pub record IsRegionOf (edges : List Seg) (p : Point) (r : ℕ) : Type 0 where
  pub joined : IsJoinedSide edges p r
  pub least : (n : ℕ) → IsJoinedSide edges p n → r ≤ n

-- a number for each side, which is the region of its side point
pub record AreRegions (edges : List Seg) (numbers : List ℕ) : Type 0 where
  pub count : length numbers ≡ 2 * length edges
  pub each : (n : ℕ) (p : Point) → IsSide edges n p → IsRegionOf edges p (slice_index numbers n)

-- n is a side whose side point is outer
pub record IsOuterSide (edges : List Seg) (n : ℕ) : Type 0 where
  pub at : Point
  pub side : IsSide edges n at
  pub outer : IsOuter edges at

-- r is the number of the outer region: the least side whose side point is outer
pub record IsOuterRegion (edges : List Seg) (r : ℕ) : Type 0 where
  pub outer : IsOuterSide edges r
  pub least : (n : ℕ) → IsOuterSide edges n → r ≤ n
