-- The count is at most the number of centres so far.
use Rattle.std.specs.Prelude.{◌≤◌}
use Rattle.random_cases.proofs.node.passed_before.Given as goal

abbrev pub invariant-loop-a : goal.invariant-loop-a
invariant-loop-a l = l.count ≤ l.a-index
