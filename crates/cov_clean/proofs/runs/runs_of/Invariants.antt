use Rattle.std.proofs.Common.{take}
use Rattle.owner_label.specs.OwnedSides.{owned_length}
use Rattle.cov_clean.specs.Runs.{AreRuns}
use Rattle.cov_clean.proofs.runs.runs_of.Given as goal

abbrev pub invariant-loop-side : goal.invariant-loop-side
invariant-loop-side l = AreRuns (owned_length (take l.side-index l.sides)) l.runs.items
