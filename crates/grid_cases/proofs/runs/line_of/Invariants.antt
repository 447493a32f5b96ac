use Rattle.std.proofs.Common.{All}
use Rattle.cov_types.specs.Range.{IsInRange}
use Rattle.grid_cases.proofs.runs.line_of.Given as goal

abbrev pub invariant-loop-x : goal.invariant-loop-x
invariant-loop-x g l = All IsInRange l.line.items
