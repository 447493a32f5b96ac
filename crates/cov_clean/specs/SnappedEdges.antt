-- The live edges of a coverage's snapped members, and what they are known to be.
use Rattle.std.specs.Prelude.{ℕ, ◌<◌, List, length, All}
use Rattle.cov_types.specs.declared.seg.Seg.{Seg}
use Rattle.cov_types.specs.Coverage.{Members}
use Rattle.cov_types.specs.Uses.{uses_of, HasEvenEnds}
use Rattle.plane.specs.Region.{AreRegions}
use Rattle.sector_laws.specs.Sector.{IsPlanar, AreDistinct}
use Rattle.arrangement.specs.declared.odd_use.OddUse.{OddUse}
use Rattle.arrangement.specs.Noding.{odd_uses}
use Rattle.arrangement.specs.Overlay.{Overlay, IsSnappedOverlay}

-- the overlay of edges and their odd pairs, with so many members and these numbers of regions
abbrev pub overlay_of : List Seg → List OddUse → ℕ → List ℕ → Overlay
overlay_of edges odd members numbers = record { edges = edges; uses = odd_uses edges odd; members = members; numbers = numbers }

-- the edges with the numbers of their regions are an overlay of the snapped members; they meet in ends alone, and their odd uses have even ends
pub record AreSnappedEdges (members : Members) (edges : List Seg) (odd : List OddUse) : Type 0 where
  pub overlay : (numbers : List ℕ) → AreRegions edges numbers → IsSnappedOverlay (uses_of members) (length members) (overlay_of edges odd (length members) numbers)
  pub below : All (λ o. o.member < length members) odd
  pub planar : IsPlanar edges
  pub distinct : AreDistinct edges
  pub even : HasEvenEnds (odd_uses edges odd)
