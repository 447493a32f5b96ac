-- The laws that make the definitions of overlays believable.
use Rattle.std.specs.Prelude.{◌≡◌, ℕ, ◌<◌, List, All, Contains, false}
use Rattle.cov_types.specs.declared.edge_use.EdgeUse.{EdgeUse}
use Rattle.cov_types.specs.declared.seg.Seg.{Seg}
use Rattle.cov_types.specs.Range.{IsSegInRange}
use Rattle.cov_types.specs.Uses.{HasEvenEnds}
use Rattle.plane.specs.Parity.{member_holds}
use Rattle.plane.specs.Point.{Point}
use Rattle.plane.specs.Label.{label_at}
use Rattle.plane.specs.Region.{IsRegionOf, AreRegions, far_point}
use Rattle.plane.specs.Segment.{upper, lower}
use Rattle.plane.specs.Validity.{IsValid}
use Rattle.sector_laws.specs.Sector.{IsPlanar}
use Rattle.arrangement.specs.declared.odd_use.OddUse.{OddUse}
use Rattle.arrangement.specs.Noding.{segments, AreEdges, AreLiveEdges, odd_uses, IsNoded}
use Rattle.arrangement.specs.Overlay.{Overlay, IsOverlayOf, IsSnappedOverlay, label_of}
use Rattle.arrangement.specs.Live.{IsLiveOverlay}

-- ---- odd edges

-- the odd uses are held by each member where all uses are, of all edges and of the live ones
abbrev pub OddUsesLaw : Type 0
OddUsesLaw = (uses : List EdgeUse) (edges : List Seg) (odd : List OddUse) → AreEdges uses edges odd
    → (member : ℕ) (p : Point) → member_holds (odd_uses edges odd) member p ≡ member_holds uses member p

-- and so they are by the odd uses of the live edges
abbrev pub LiveUsesLaw : Type 0
LiveUsesLaw = (uses : List EdgeUse) (edges : List Seg) (odd : List OddUse) → AreLiveEdges uses edges odd
    → (member : ℕ) (p : Point) → member_holds (odd_uses edges odd) member p ≡ member_holds uses member p

-- the live edges of the odd uses are the live edges of the uses
abbrev pub LiveAgainLaw : Type 0
LiveAgainLaw = (uses : List EdgeUse) (edges : List Seg) (odd : List OddUse) → AreEdges uses edges odd
    → (live : List Seg) (live_odd : List OddUse) → AreLiveEdges (odd_uses edges odd) live live_odd → AreLiveEdges uses live live_odd

-- ---- noded edges

-- uses in range have one list of noded edges, with one list of odd pairs
abbrev pub NodingLaw : Type 0
NodingLaw = (uses : List EdgeUse) → All (λ u. IsSegInRange u.seg) uses → (edges others : List Seg) (odd odd_too : List OddUse)
    → IsNoded uses edges odd → IsNoded uses others odd_too → (edges ≡ others) × (odd ≡ odd_too)

-- ---- labels

-- some member holds just one of the two side points of a live edge
abbrev pub SidesDifferLaw : Type 0
SidesDifferLaw = (uses : List EdgeUse) (edges : List Seg) (odd : List OddUse) → AreLiveEdges uses edges odd → IsPlanar edges → (e : Seg) → Contains edges e
    → (member : ℕ) × ¬ (member_holds (odd_uses edges odd) member (lower e) ≡ member_holds (odd_uses edges odd) member (upper e))

-- no member with segments in range holds the point past the range
abbrev pub FarLaw : Type 0
FarLaw = (uses : List EdgeUse) → All IsSegInRange (segments uses) → (member : ℕ) → member_holds uses member far_point ≡ false

-- ---- overlays

-- an overlay of uses that have even ends is live, where its edges are in range and meet in ends alone
abbrev pub LiveOverlayLaw : Type 0
LiveOverlayLaw = (uses : List EdgeUse) (members : ℕ) (o : Overlay) → IsOverlayOf uses members o → IsPlanar o.edges → HasEvenEnds uses
    → All (λ u. u.member < members) uses → IsLiveOverlay o

-- the label of a region is that of each of its points
abbrev pub LabelLaw : Type 0
LabelLaw = (o : Overlay) → IsLiveOverlay o → (p : Point) (r : ℕ) → IsRegionOf o.edges p r → label_of o r ≡ label_at o.uses o.members p

-- the uses of so many members have one overlay
abbrev pub OverlayLaw : Type 0
OverlayLaw = (uses : List EdgeUse) (members : ℕ) (o q : Overlay) → IsOverlayOf uses members o → IsOverlayOf uses members q → o ≡ q

-- and uses in range one overlay of the snapped members
abbrev pub SnappedOverlayLaw : Type 0
SnappedOverlayLaw = (uses : List EdgeUse) → All (λ u. IsSegInRange u.seg) uses → (members : ℕ) (o q : Overlay) → IsSnappedOverlay uses members o → IsSnappedOverlay uses members q → o ≡ q

-- whose edges are in range and meet in ends alone
abbrev pub SnappedPlanarLaw : Type 0
SnappedPlanarLaw = (uses : List EdgeUse) → All (λ u. IsSegInRange u.seg) uses → (members : ℕ) (o : Overlay) → IsSnappedOverlay uses members o → IsPlanar o.edges

-- ---- valid coverages

-- in a valid coverage each segment is live, so the distinct segments are the live edges
abbrev pub ValidLiveLaw : Type 0
ValidLiveLaw = (uses : List EdgeUse) → IsValid uses → (edges : List Seg) (odd : List OddUse) → AreEdges uses edges odd → AreLiveEdges uses edges odd

-- and its segments with the numbers of their regions are an overlay of it
abbrev pub ValidOverlayLaw : Type 0
ValidOverlayLaw = (uses : List EdgeUse) → IsValid uses → (edges : List Seg) (odd : List OddUse) → AreEdges uses edges odd → (members : ℕ) (numbers : List ℕ) → AreRegions edges numbers
    → IsOverlayOf uses members (record { edges = edges; uses = odd_uses edges odd; members = members; numbers = numbers })
