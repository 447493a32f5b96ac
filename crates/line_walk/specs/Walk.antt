-- Walks along edges.
use Rattle.std.specs.Prelude.{◌≡◌, ◌≢◌, ◌⊎◌, ℕ, ◌-◌, ◌<◌, ◌↔◌, List, length, All, Contains, Option, Some, None, slice_get}
use Rattle.cov_types.specs.declared.coord.Coord.{Coord}
use Rattle.cov_types.specs.declared.seg.Seg.{Seg}
use Rattle.plane.specs.Snapping.{chain_edges}
use Rattle.greedy_run.specs.Lines.{degree, IsTrail, EndsAt}
use Rattle.line_walk.specs.Partners.{HasEndAt, IsPartner}
use Rattle.line_walk.specs.declared.walk.Walk.{Walk}

-- the edge is at one of the places
abbrev pub IsAtPlaces : List Seg → List ℕ → Seg → Type 0
IsAtPlaces edges places e = (k : ℕ) × (Contains places k × (slice_get edges k ≡ Some e))

-- a walk that came to a vertex along an edge goes on along the other edge there, and ends where other than two edges meet or where it began
abbrev pub IsOnwardFrom : List Seg → Coord → Coord → ℕ → Option ℕ → Type 0
IsOnwardFrom edges from to last None = (to ≡ from) ⊎ (degree edges to ≢ 2)
IsOnwardFrom edges from to last (Some next) = (to ≢ from) × IsPartner edges to last next

-- a walk from the vertex along the edge at the first place, and on until other than two edges meet or the vertex is met again
pub record IsEdgeWalk (edges : List Seg) (from : Coord) (first : ℕ) (w : Walk) : Type 0 where
  pub trail : IsTrail edges w.points.items
  pub begins : slice_get w.points.items 0 ≡ Some from
  pub ends : EndsAt w.points.items w.to
  pub done : (w.to ≡ from) ⊎ (degree edges w.to ≢ 2)
  pub passed : (e : Seg) → Contains (chain_edges w.points.items) e ↔ IsAtPlaces edges w.edges.items e
  pub within : All (λ k. k < length edges) w.edges.items
  pub along_first : (e : Seg) → slice_get edges first ≡ Some e → slice_get (chain_edges w.points.items) 0 ≡ Some e
  pub along_last : (e : Seg) → slice_get edges w.last ≡ Some e → slice_get (chain_edges w.points.items) (length w.points.items - 2) ≡ Some e
  pub last : HasEndAt edges w.last w.to
