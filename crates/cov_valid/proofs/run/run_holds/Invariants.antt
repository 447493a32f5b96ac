use Rattle.std.proofs.Common.{◌≡◌, ◌≤◌, ◌-◌}
use Rattle.cov_valid.proofs.run.run_holds.Given as goal
use Rattle.parity_laws.specs.Runs.{part_holds}
use Rattle.plane.specs.Segment.{midpoint}

abbrev pub decreases-loop-from : goal.decreases-loop-from
decreases-loop-from l = l.run.to - l.from

abbrev pub invariant-loop-from : goal.invariant-loop-from
invariant-loop-from l = (l.run.from ≤ l.from) × (l.from ≤ l.run.to) × (l.holds ≡ part_holds l.outline.uses.items l.run.from l.from (midpoint l.s))
