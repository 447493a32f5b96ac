-- The edges of a region, and the box of them.
use Rattle.std.specs.Prelude.{◌≡◌, ◌⊎◌, ℕ, List, Contains, pos, ◌*ℤ◌, ◌<ℤ◌}
use Rattle.cov_types.specs.declared.coord.Coord.{Coord}
use Rattle.cov_types.specs.declared.seg.Seg.{Seg}
use Rattle.plane.specs.Point.{Point}
use Rattle.plane.specs.Region.{IsRegionOf}
use Rattle.plane.specs.Segment.{upper, lower}

-- e is an edge of the region r, which is on one of its sides or on both
pub record IsEdgeOf (edges : List Seg) (r : ℕ) (e : Seg) : Type 0 where
  pub among : Contains edges e
  pub beside : IsRegionOf edges (upper e) r ⊎ IsRegionOf edges (lower e) r

-- c is an end of an edge of the region
pub record IsCornerOf (edges : List Seg) (r : ℕ) (c : Coord) : Type 0 where
  pub edge : Seg
  pub of : IsEdgeOf edges r edge
  pub is : (c ≡ edge.lo) ⊎ (c ≡ edge.hi)

-- p is strictly inside the box of the region's edges: of their ends one is further to the left, one further to the right, one lower and one higher
pub record IsInBoxOf (edges : List Seg) (r : ℕ) (p : Point) : Type 0 where
  pub left : (c : Coord) × (IsCornerOf edges r c × ((c.x *ℤ pos p.d) <ℤ p.x))
  pub right : (c : Coord) × (IsCornerOf edges r c × (p.x <ℤ (c.x *ℤ pos p.d)))
  pub bottom : (c : Coord) × (IsCornerOf edges r c × ((c.y *ℤ pos p.d) <ℤ p.y))
  pub top : (c : Coord) × (IsCornerOf edges r c × (p.y <ℤ (c.y *ℤ pos p.d)))
