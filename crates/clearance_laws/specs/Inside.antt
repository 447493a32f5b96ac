-- How the edges of a region tell which points are in it.
use Rattle.std.specs.Prelude.{◌↔◌, ℕ, Bool, ◌||◌, true, false, IsTrue, List, filter, Contains}
use Rattle.std.proofs.Common.{lit≤}
use Rattle.cov_types.specs.declared.coord.Coord.{Coord}
use Rattle.cov_types.specs.declared.seg.Seg.{Seg}
use Rattle.plane.specs.Point.{Point}
use Rattle.plane.specs.Region.{IsRegionOf}
use Rattle.plane.specs.Segment.{IsOn}
use Rattle.sector_laws.specs.Sector.{HalfEdge, left}
use Rattle.region_owners.specs.Box.{IsEdgeOf}

-- the point that c stands for in doubled coordinates
abbrev pub half_point : Coord → Point
half_point c = record { x = c.x; y = c.y; d = 2; positive = lit≤ tt }

-- the test tells the half-edges that have the region on their left
abbrev pub TellsSides : List Seg → ℕ → (HalfEdge → Bool) → Type 0
TellsSides edges r passes = (h : HalfEdge) → Contains edges h.edge → IsTrue (passes h) ↔ IsRegionOf edges (left h) r

-- p is on no edge of the region
abbrev pub IsOffOwn : List Seg → ℕ → Point → Type 0
IsOffOwn edges r p = (e : Seg) → IsEdgeOf edges r e → IsOn e p → ⊥

-- the edges with a side that passes the test
abbrev pub edges_beside : (HalfEdge → Bool) → List Seg → List Seg
edges_beside passes edges = filter (λ e. passes (record { edge = e; forwards = true }) || passes (record { edge = e; forwards = false })) edges
