-- The edges so far are in range.
use Rattle.std.specs.Prelude.{All}
use Rattle.cov_types.specs.Range.{IsSegInRange}
use Rattle.random_cases.proofs.gaps.own_edges.Given as goal

abbrev pub invariant-loop-side : goal.invariant-loop-side
invariant-loop-side l = All IsSegInRange l.own.items
