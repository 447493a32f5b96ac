-- Parts of the runs of an outline, and what is known of the outline where they are looked at.
use Rattle.std.specs.Prelude.{◌≡◌, ℕ, ◌≤◌, List, All}
use Rattle.cov_types.specs.Range.{IsSegInRange}
use Rattle.cov_types.specs.declared.outline.Outline.{Outline}
use Rattle.cov_types.specs.declared.ring_run.RingRun.{RingRun}
use Rattle.cov_types.specs.declared.seg.Seg.{Seg}
use Rattle.cov_valid.specs.Levels.{IsLevel}
use Rattle.cov_valid.specs.declared.level.Level.{Level}
use Rattle.cov_valid.specs.declared.run.Part.{Part}
use Rattle.parity_laws.specs.Runs.{part_holds}
use Rattle.plane.specs.Segment.{midpoint}

-- the uses are in range, and the levels are about them
pub record IsLevelled (outline : Outline) (levels : List Level) : Type 0 where
  pub in_range : All (λ u. IsSegInRange u.seg) outline.uses.items
  pub levels_are : All (IsLevel outline.uses.items) levels

-- the part of the run that begins at a place: where it ends, and whether it holds the midpoint of the segment
pub record IsRunPart (outline : Outline) (run : RingRun) (from : ℕ) (s : Seg) (part : Part) : Type 0 where
  pub begins : from ≤ part.to
  pub ends : part.to ≤ run.to
  pub held : part.holds ≡ part_holds outline.uses.items from part.to (midpoint s)
