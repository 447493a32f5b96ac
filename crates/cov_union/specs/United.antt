-- The union of a coverage, as polygons.
use Rattle.std.specs.Prelude.{ℕ, length, Option}
use Rattle.cov_types.specs.Coverage.{Members}
use Rattle.cov_types.specs.Uses.{uses_of}
use Rattle.arrangement.specs.Overlay.{Overlay, IsOverlayOf}
use Rattle.cleaned_laws.specs.Owning.{AreUnionOwners}
use Rattle.sound_polygons.specs.Cleaned.{IsBuilt}

-- out is one member, of the sound polygons of the parts of all regions of the coverage that have a label
pub record IsUnited (members out : Members) : Type 0 where
  pub overlay : Overlay
  pub is_overlay : IsOverlayOf (uses_of members) (length members) overlay
  pub owners : ℕ → Option ℕ
  pub are_owners : AreUnionOwners overlay owners
  pub built : IsBuilt overlay owners 1 out
