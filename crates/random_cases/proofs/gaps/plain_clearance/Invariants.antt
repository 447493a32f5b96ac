-- The room so far is small.
use Rattle.std.specs.Prelude.{◌≤◌}
use Rattle.random_cases.proofs.gaps.plain_clearance.Given as goal

abbrev pub invariant-loop-x : goal.invariant-loop-x
invariant-loop-x l = l.most ≤ 200
