-- Tests on the sides of edges that a crossing from region to region keeps.
use Rattle.std.specs.Prelude.{◌≡◌, Bool, List, Contains}
use Rattle.cov_types.specs.declared.seg.Seg.{Seg}
use Rattle.plane.specs.Joined.{Joined}
use Rattle.sector_laws.specs.Sector.{HalfEdge, left, twin}

-- the test is the same across each edge, and on half-edges with joined points on their left
pub record IsCrossed (edges : List Seg) (passes : HalfEdge → Bool) : Type 0 where
  pub across : (h : HalfEdge) → Contains edges h.edge → passes h ≡ passes (twin h)
  pub joined : (h g : HalfEdge) → Contains edges h.edge → Contains edges g.edge → Joined edges (left h) (left g) → passes h ≡ passes g
