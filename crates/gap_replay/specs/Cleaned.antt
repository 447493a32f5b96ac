-- What clean answers where the rule is asked for the narrow gaps too.
use Rattle.std.specs.Prelude.{ℕ, Bool, true, false, List, length, Option}
use Rattle.cov_types.specs.Coverage.{Members}
use Rattle.cov_types.specs.Uses.{uses_of}
use Rattle.arrangement.specs.Overlay.{Overlay, IsSnappedOverlay}
use Rattle.region_owners.specs.Owner.{Rule}
use Rattle.sound_polygons.specs.Cleaned.{IsBuilt, IsCleaned}
use Rattle.gap_replay.specs.Replay.{AreNarrowGaps, AreOwnersByReplay}

-- out is the coverage, cleaned by the rule from this state, which is asked for the gaps that are narrow at w too
pub record IsCleanedWithGaps {State : Type 0} (members : Members) (rule : Rule State) (state : State) (w : ℕ) (out : Members) : Type 0 where
  pub overlay : Overlay
  pub is_overlay : IsSnappedOverlay (uses_of members) (length members) overlay
  pub gaps : List ℕ
  pub are_gaps : AreNarrowGaps overlay w gaps
  pub owners : ℕ → Option ℕ
  pub are_owners : AreOwnersByReplay rule state overlay gaps owners
  pub built : IsBuilt overlay owners (length members) out

-- out is the coverage, cleaned: each narrow gap goes to the longest owned border or, where gaps are asked for too, as the rule picks
abbrev pub IsCleanedBy : {State : Type 0} → Bool → Members → Rule State → State → ℕ → Members → Type 0
IsCleanedBy false members rule state w out = IsCleaned members rule state w out
IsCleanedBy true members rule state w out = IsCleanedWithGaps members rule state w out
