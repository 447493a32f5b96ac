-- Edges beside regions, and marks of their uses.
use Rattle.std.specs.Prelude.{◌≡◌, ◌⊎◌, ℕ, ◌+◌, ◌*◌, List, Contains, Some, slice_get, slice_index}
use Rattle.cov_types.specs.declared.edge_use.EdgeUse.{EdgeUse}
use Rattle.cov_types.specs.declared.seg.Seg.{Seg}
use Rattle.cov_valid.specs.declared.mark.Kind.{Kind}
use Rattle.cov_valid.specs.declared.mark.Kind.TheVariants.{NarrowGap}

-- where the sides have these numbers of regions, s is an edge one side of which has one of these regions
pub record IsBesideAny (edges : List Seg) (numbers regions : List ℕ) (s : Seg) : Type 0 where
  pub edge : ℕ
  pub listed : slice_get edges edge ≡ Some s
  pub beside : Contains regions (slice_index numbers (2 * edge)) ⊎ Contains regions (slice_index numbers (2 * edge + 1))

-- the kind is that of a narrow gap, and the segment of the use is one of these
abbrev pub IsUseOf : List Seg → EdgeUse → Kind → Type 0
IsUseOf segs edge kind = (kind ≡ NarrowGap) × Contains segs edge.seg
