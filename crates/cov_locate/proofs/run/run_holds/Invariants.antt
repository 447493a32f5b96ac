use Rattle.std.proofs.Common.{◌≡◌, ◌≤◌, ◌-◌}
use Rattle.cov_locate.proofs.run.run_holds.Given as goal
use Rattle.cov_locate.specs.Parts.{AreClear}
use Rattle.parity_laws.specs.Runs.{part_holds}
use Rattle.plane.specs.Point.{at_coord}

abbrev pub decreases-loop-from : goal.decreases-loop-from
decreases-loop-from l = l.run.to - l.from

abbrev pub invariant-loop-from : goal.invariant-loop-from
invariant-loop-from l = (l.run.from ≤ l.from) × (l.from ≤ l.run.to) × AreClear l.outline.uses.items l.run.from l.from l.p × (l.holds ≡ part_holds l.outline.uses.items l.run.from l.from (at_coord l.p))
