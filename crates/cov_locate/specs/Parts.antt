-- Parts of the runs of rings that have no point on a segment, and what they hold.
use Rattle.std.specs.Prelude.{◌≡◌, ℕ, ◌<◌, ◌≤◌, Bool, List, All, map, slice_index_or}
use Rattle.box_tree.specs.Rect.{box_of_segment}
use Rattle.cov_locate.specs.Levels.{IsLevel}
use Rattle.cov_locate.specs.declared.level.Level.{Level}
use Rattle.cov_locate.specs.declared.run.Part.{Part}
use Rattle.cov_types.specs.Range.{IsSegInRange}
use Rattle.cov_types.specs.declared.coord.Coord.{Coord}
use Rattle.cov_types.specs.declared.edge_use.EdgeUse.{EdgeUse}
use Rattle.cov_types.specs.declared.outline.Outline.{Outline}
use Rattle.cov_types.specs.declared.ring_run.RingRun.{RingRun}
use Rattle.parity_laws.specs.Runs.{part_holds, run_holds}
use Rattle.plane.specs.Point.{at_coord}
use Rattle.plane.specs.Segment.{IsOn}

-- the uses are in range, and the levels are over the boxes of their segments
pub record IsLevelled (outline : Outline) (levels : List Level) : Type 0 where
  pub in_range : All (λ u. IsSegInRange u.seg) outline.uses.items
  pub levels_are : All (IsLevel (map (λ u. box_of_segment u.seg) outline.uses.items)) levels

-- no segment of the uses from one place to before another has the point
abbrev pub AreClear : List EdgeUse → ℕ → ℕ → Coord → Type 0
AreClear uses from to p = (k : ℕ) (d : EdgeUse) → from ≤ k → k < to → ¬ IsOn (slice_index_or uses k d).seg (at_coord p)

-- the part of the run that begins at a place: where it ends, and whether it holds the point
pub record IsPart (uses : List EdgeUse) (run : RingRun) (from : ℕ) (p : Coord) (part : Part) : Type 0 where
  pub begins : from < part.to
  pub ends : part.to ≤ run.to
  pub clear : AreClear uses from part.to p
  pub held : part.holds ≡ part_holds uses from part.to (at_coord p)

-- no segment of the run has the point, and this is whether the run holds it
pub record IsRunTold (uses : List EdgeUse) (run : RingRun) (p : Coord) (holds : Bool) : Type 0 where
  pub clear : AreClear uses run.from run.to p
  pub held : holds ≡ run_holds uses (at_coord p) run
