-- The map of the faults of a coverage: its marks, the regions that several members hold, and its gaps.
use Rattle.std.specs.Prelude.{◌≡◌, ℕ, ◌<◌, ◌≤◌, ◌↔◌, List, ◌++◌, length, AllPairs, Contains, Some, slice_get}
use Rattle.std.specs.List.{AllZip}
use Rattle.cov_types.specs.Coverage.{Members}
use Rattle.cov_types.specs.Uses.{uses_of}
use Rattle.cov_types.specs.declared.edge_use.EdgeUse.{EdgeUse}
use Rattle.arrangement.specs.Measure.{region_area2}
use Rattle.arrangement.specs.Overlay.{Overlay, IsRegion, label_of, AreBeside, IsSnappedOverlay}
use Rattle.region_owners.specs.Gap.{IsGap, IsClearance}
use Rattle.cov_valid.specs.declared.mark.Mark.{Mark}
use Rattle.cov_marks.specs.Marks.{AreMarks}
use Rattle.fault_text.specs.declared.feature.MapFeature.{MapFeature}
use Rattle.fault_text.specs.declared.feature.MapFeature.TheVariants.{Marked, Overlap, Gap}
use Rattle.fault_map.specs.Polygon.{IsRegionPolygon}

-- ---- marks

-- the feature shows the mark, with the segment of the use at its place
abbrev pub IsMarkFeature : List EdgeUse → Mark → MapFeature → Type 0
IsMarkFeature uses mark (Marked kind member place segment) =
    (kind ≡ mark.kind) × (member ≡ mark.member) × (place ≡ mark.place) × ((edge : EdgeUse) × ((slice_get uses mark.place ≡ Some edge) × (segment ≡ edge.seg)))
IsMarkFeature uses mark (Overlap members area2 region polygon) = ⊥
IsMarkFeature uses mark (Gap area2 clearance region members polygon) = ⊥

-- ---- overlaps

-- a region that several members hold
pub record IsShared (o : Overlay) (r : ℕ) : Type 0 where
  pub region : IsRegion o.edges r
  pub several : 2 ≤ length (label_of o r)

-- the feature shows the region as an overlap: its members, its doubled area, its number and its polygon
abbrev pub IsOverlapFeature : Overlay → ℕ → MapFeature → Type 0
IsOverlapFeature o r (Marked kind member place segment) = ⊥
IsOverlapFeature o r (Overlap members area2 region polygon) = (members.items ≡ label_of o r) × (area2 ≡ region_area2 o r) × (region ≡ r) × IsRegionPolygon o r polygon
IsOverlapFeature o r (Gap area2 clearance region members polygon) = ⊥

-- ---- gaps

-- the member holds a region beside this one
pub record IsBordering (o : Overlay) (r member : ℕ) : Type 0 where
  pub region : ℕ
  pub beside : AreBeside o r region
  pub holds : Contains (label_of o region) member

-- exactly the members that border on the region, ascending
pub record AreBordering (o : Overlay) (r : ℕ) (members : List ℕ) : Type 0 where
  pub ascending : AllPairs (λ m n. m < n) members
  pub exact : (member : ℕ) → Contains members member ↔ IsBordering o r member

-- the feature shows the region as a gap: its doubled area, its clearance, its number, the members that border on it and its polygon
abbrev pub IsGapFeature : Overlay → ℕ → MapFeature → Type 0
IsGapFeature o r (Marked kind member place segment) = ⊥
IsGapFeature o r (Overlap members area2 region polygon) = ⊥
IsGapFeature o r (Gap area2 clearance region members polygon) =
    (area2 ≡ region_area2 o r) × IsClearance o.edges r clearance × (region ≡ r) × AreBordering o r members.items × IsRegionPolygon o r polygon

-- ---- the map

-- after the features from before stands one for each of these
pub record AreAppended {X : Type 0} (IsShown : X → MapFeature → Type 0) (shown : List X) (before after : List MapFeature) : Type 0 where
  pub more : List MapFeature
  pub each : AllZip IsShown shown more
  pub all : after ≡ before ++ more

-- exactly the regions that are to be listed, ascending
pub record AreListed (IsListed : ℕ → Type 0) (regions : List ℕ) : Type 0 where
  pub ascending : AllPairs (λ m n. m < n) regions
  pub exact : (r : ℕ) → Contains regions r ↔ IsListed r

-- the features show exactly the regions that are to be listed, by ascending number
pub record AreFeaturesOf (IsListed : ℕ → Type 0) (IsShown : ℕ → MapFeature → Type 0) (features : List MapFeature) : Type 0 where
  pub regions : List ℕ
  pub listed : AreListed IsListed regions
  pub each : AllZip IsShown regions features

-- after the features from before stand such ones
pub record AreFeaturesAppended (IsListed : ℕ → Type 0) (IsShown : ℕ → MapFeature → Type 0) (before after : List MapFeature) : Type 0 where
  pub more : List MapFeature
  pub shown : AreFeaturesOf IsListed IsShown more
  pub all : after ≡ before ++ more

-- the features are the map of the faults of the coverage at the gap width w, with so many marks: first these, by ascending place, then the
-- overlaps of the snapped members, and then their gaps
pub record IsFaultMap (members : Members) (w marked : ℕ) (features : List MapFeature) : Type 0 where
  pub marks : List Mark
  pub are_marks : AreMarks (uses_of members) (length members) w marks
  pub count : marked ≡ length marks
  pub overlay : Overlay
  pub is_overlay : IsSnappedOverlay (uses_of members) (length members) overlay
  pub of_marks : List MapFeature
  pub of_overlaps : List MapFeature
  pub of_gaps : List MapFeature
  pub marks_shown : AllZip (IsMarkFeature (uses_of members)) marks of_marks
  pub overlaps_shown : AreFeaturesOf (IsShared overlay) (IsOverlapFeature overlay) of_overlaps
  pub gaps_shown : AreFeaturesOf (IsGap overlay) (IsGapFeature overlay) of_gaps
  pub all : features ≡ of_marks ++ (of_overlaps ++ of_gaps)
