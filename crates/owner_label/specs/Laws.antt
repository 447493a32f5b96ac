-- What labels stand on: across an edge exactly its odd members change, and a region has one label.
use Rattle.std.specs.Prelude.{◌≡◌, ℕ, ◌<◌, List, [], All, Some, slice_get}
use Rattle.cov_types.specs.declared.edge_use.EdgeUse.{EdgeUse}
use Rattle.cov_types.specs.declared.seg.Seg.{Seg}
use Rattle.cov_types.specs.Uses.{HasEvenEnds}
use Rattle.plane.specs.Label.{label_at}
use Rattle.plane.specs.Point.{Point}
use Rattle.plane.specs.Region.{IsOuter, IsRegionOf}
use Rattle.plane.specs.Segment.{upper, lower}
use Rattle.sector_laws.specs.Sector.{IsPlanar}
use Rattle.arrangement.specs.declared.odd_use.OddUse.{OddUse}
use Rattle.arrangement.specs.Noding.{AreLiveEdges, odd_uses}
use Rattle.owner_label.specs.Members.{members_of, IsToggled}

-- below a live edge the label is that above it, with exactly the members toggled for which the edge is odd
abbrev pub ToggleLaw : Type 0
ToggleLaw = (uses : List EdgeUse) (edges : List Seg) (odd : List OddUse) → AreLiveEdges uses edges odd → IsPlanar edges → (members : ℕ) → All (λ o. o.member < members) odd
    → (k : ℕ) (e : Seg) → slice_get edges k ≡ Some e
    → IsToggled (label_at (odd_uses edges odd) members (upper e)) (members_of odd k) (label_at (odd_uses edges odd) members (lower e))

-- where members have even ends, the points of a region have one label
abbrev pub OneLabelLaw : Type 0
OneLabelLaw = (edges : List Seg) (odd : List OddUse) → IsPlanar edges → HasEvenEnds (odd_uses edges odd)
    → (members : ℕ) (p q : Point) (r : ℕ) → IsRegionOf edges p r → IsRegionOf edges q r → label_at (odd_uses edges odd) members p ≡ label_at (odd_uses edges odd) members q

-- and an outer point has the empty one
abbrev pub OuterLabelLaw : Type 0
OuterLabelLaw = (edges : List Seg) (odd : List OddUse) → IsPlanar edges → HasEvenEnds (odd_uses edges odd)
    → (members : ℕ) (p : Point) → IsOuter edges p → label_at (odd_uses edges odd) members p ≡ []
