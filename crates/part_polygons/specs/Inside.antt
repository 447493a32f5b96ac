-- Half-edges with the regions inside on their left, and the points of rings of half-edges.
use Rattle.std.specs.Prelude.{◌≡◌, ℕ, Bool, true, false, List, map, Contains}
use Rattle.cov_types.specs.declared.coord.Coord.{Coord}
use Rattle.cov_types.specs.declared.seg.Seg.{Seg}
use Rattle.arrangement.specs.Overlay.{Overlay, numbered_edges, region_above, region_below}
use Rattle.sector_laws.specs.Sector.{HalfEdge, origin}

-- the test tells the half-edges with a region inside on their left
pub record TellsInside (o : Overlay) (inside : ℕ → Bool) (passes : HalfEdge → Bool) : Type 0 where
  pub above : (k : ℕ) (e : Seg) → Contains (numbered_edges o) (k, e) → passes (record { edge = e; forwards = true }) ≡ inside (region_above o k)
  pub below : (k : ℕ) (e : Seg) → Contains (numbered_edges o) (k, e) → passes (record { edge = e; forwards = false }) ≡ inside (region_below o k)

-- the points of a ring: where its half-edges begin
abbrev pub points_of : List HalfEdge → List Coord
points_of ring = map origin ring
