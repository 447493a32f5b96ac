-- Overlays: edges, the uses that members make of them, and the regions on their two sides.
use Rattle.std.specs.Prelude.{◌≡◌, ℕ, ◌+◌, ◌*◌, ◌<◌, ◌==◌, ◌⊎◌, List, length, filter, flat_map, option_to_list, slice_get, slice_index}
use Rattle.std.specs.List.{enumerate_from}
use Rattle.cov_types.specs.declared.edge_use.EdgeUse.{EdgeUse}
use Rattle.cov_types.specs.declared.seg.Seg.{Seg}
use Rattle.plane.specs.Label.{label_at, numbers_below}
use Rattle.plane.specs.Point.{Point}
use Rattle.plane.specs.Region.{side_points, IsSide, IsRegionOf, AreRegions}
use Rattle.arrangement.specs.declared.odd_use.OddUse.{OddUse}
use Rattle.arrangement.specs.Noding.{AreSnapped, AreLiveEdges, odd_uses}

-- edges that meet in ends alone, the uses of them by members below a number, and for each side the number of its region
pub record Overlay : Type 0 where
  pub edges : List Seg
  pub uses : List EdgeUse
  pub members : ℕ
  pub numbers : List ℕ

-- the edges, each with its number
abbrev pub numbered_edges : Overlay → List (ℕ × Seg)
numbered_edges o = enumerate_from 0 o.edges

-- the region of a side
abbrev pub region_at : Overlay → ℕ → ℕ
region_at o n = slice_index o.numbers n

-- the region above edge k, on its upper side
abbrev pub region_above : Overlay → ℕ → ℕ
region_above o k = region_at o (2 * k)

-- the region below edge k, on its lower side
abbrev pub region_below : Overlay → ℕ → ℕ
region_below o k = region_at o (2 * k + 1)

-- the numbers of the regions, ascending: each is that of the least side of its region
abbrev pub region_numbers : Overlay → List ℕ
region_numbers o = filter (λ r. region_at o r == r) (numbers_below (2 * length o.edges))

-- r is a region: the region of its own side point
pub record IsRegion (edges : List Seg) (r : ℕ) : Type 0 where
  pub at : Point
  pub side : IsSide edges r at
  pub own : IsRegionOf edges at r

-- the label of a region, which is that of its side point
abbrev pub label_of : Overlay → ℕ → List ℕ
label_of o r = flat_map (label_at o.uses o.members) (option_to_list (slice_get (side_points o.edges) r))

-- the two regions are the two sides of an edge
pub record AreBeside (o : Overlay) (r s : ℕ) : Type 0 where
  pub edge : ℕ
  pub listed : edge < length o.edges
  pub sides : ((region_above o edge ≡ r) × (region_below o edge ≡ s)) ⊎ ((region_above o edge ≡ s) × (region_below o edge ≡ r))

-- ---- overlays of a coverage

-- the overlay of the uses of so many members: their live edges, odd uses and regions
pub record IsOverlayOf (uses : List EdgeUse) (members : ℕ) (o : Overlay) : Type 0 where
  pub odd : List OddUse
  pub live : AreLiveEdges uses o.edges odd
  pub by_odd : o.uses ≡ odd_uses o.edges odd
  pub count : o.members ≡ members
  pub numbered : AreRegions o.edges o.numbers

-- the overlay of the snapped members
pub record IsSnappedOverlay (uses : List EdgeUse) (members : ℕ) (o : Overlay) : Type 0 where
  pub snapped : List EdgeUse
  pub are_snapped : AreSnapped uses snapped
  pub overlay : IsOverlayOf snapped members o
