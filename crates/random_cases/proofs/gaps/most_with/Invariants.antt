-- The room so far is small.
use Rattle.std.specs.Prelude.{◌≤◌}
use Rattle.random_cases.proofs.gaps.most_with.Given as goal

abbrev pub invariant-loop-w : goal.invariant-loop-w
invariant-loop-w l = l.most ≤ 200
