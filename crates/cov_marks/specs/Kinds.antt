-- The kinds with which a use of a segment is marked at a gap width.
use Rattle.std.specs.Prelude.{◌≡◌, ◌⊎◌, ℕ, List, Some, slice_get}
use Rattle.cov_types.specs.declared.edge_use.EdgeUse.{EdgeUse}
use Rattle.cov_types.specs.declared.seg.Seg.{Seg}
use Rattle.arrangement.specs.Overlay.{Overlay, IsOverlayOf, region_above, region_below}
use Rattle.region_owners.specs.Owner.{IsNarrowGap}
use Rattle.cov_valid.specs.Kinds.{IsFaultOf, AreFaultless}
use Rattle.cov_valid.specs.declared.mark.Kind.{Kind}
use Rattle.cov_valid.specs.declared.mark.Kind.TheVariants.{NarrowGap}

-- one side of the segment is in a gap that is narrow at the width, between the segments of so many members
pub record IsBesideNarrowGap (uses : List EdgeUse) (members w : ℕ) (s : Seg) : Type 0 where
  pub overlay : Overlay
  pub is_overlay : IsOverlayOf uses members overlay
  pub edge : ℕ
  pub listed : slice_get overlay.edges edge ≡ Some s
  pub narrow : IsNarrowGap overlay (region_above overlay edge) w ⊎ IsNarrowGap overlay (region_below overlay edge) w

-- among so many members and at this gap width the use is marked with this kind: by its fault, or where no use is at fault by a narrow gap
abbrev pub IsOfKind : List EdgeUse → ℕ → ℕ → EdgeUse → Kind → Type 0
IsOfKind uses members w edge NarrowGap = AreFaultless uses × IsBesideNarrowGap uses members w edge.seg
IsOfKind uses members w edge kind = IsFaultOf uses edge kind
