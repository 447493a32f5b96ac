-- The room so far is small.
use Rattle.std.specs.Prelude.{◌≤◌}
use Rattle.random_cases.proofs.gaps.most_in_column.Given as goal

abbrev pub invariant-loop-y : goal.invariant-loop-y
invariant-loop-y l = l.most ≤ 200
