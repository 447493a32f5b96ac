-- The uses of chain edges, and how near the noded edges are to the segments that they come from.
use Rattle.std.specs.Prelude.{◌≡◌, ℕ, ◌+◌, List, map, Contains, Some, slice_get}
use Rattle.std.specs.List.{AllZip}
use Rattle.cov_types.specs.declared.coord.Coord.{Coord}
use Rattle.cov_types.specs.declared.edge_use.EdgeUse.{EdgeUse}
use Rattle.cov_types.specs.declared.seg.Seg.{Seg}
use Rattle.plane.specs.Point.{Point}
use Rattle.plane.specs.Segment.{IsOn}
use Rattle.plane.specs.Snapping.{IsChain, chain_edges}
use Rattle.plane.specs.Noded.{IsWithinHalf}
use Rattle.arrangement.specs.Noding.{segments, snapped_uses}

-- the uses of the edges of a chain in place of the use of its segment
abbrev pub chain_uses : EdgeUse × List Coord → List EdgeUse
chain_uses pair = map (λ e. record { member = pair.0.member; seg = e }) (chain_edges pair.1)

-- the use before the place i and the use there have one segment
pub record HasSegmentBefore (uses : List EdgeUse) (i : ℕ) : Type 0 where
  pub earlier : ℕ
  pub before : EdgeUse
  pub here : EdgeUse
  pub next : earlier + 1 ≡ i
  pub at_before : slice_get uses earlier ≡ Some before
  pub at_here : slice_get uses i ≡ Some here
  pub same : before.seg ≡ here.seg

-- snapped are the uses of the chain edges of the uses, by their chains among all segments
pub record AreSnappedOver (segs : List Seg) (uses snapped : List EdgeUse) : Type 0 where
  pub chains : List (List Coord)
  pub are_chains : AllZip (λ u chain. IsChain segs u.seg chain) uses chains
  pub made : snapped ≡ snapped_uses uses chains

-- every point of an edge is within half a unit, in x and in y, of a point of each segment whose chain has the edge
abbrev pub IsNearSegments : List EdgeUse → List Seg → Type 0
IsNearSegments uses edges = (e : Seg) → Contains edges e → (u : EdgeUse) (chain : List Coord) → Contains uses u → IsChain (segments uses) u.seg chain
    → Contains (chain_edges chain) e → (p : Point) → IsOn e p → (q : Point) × (IsOn u.seg q × IsWithinHalf p q)
