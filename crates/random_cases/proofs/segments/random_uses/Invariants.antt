-- The segments so far are in range.
use Rattle.std.specs.Prelude.{All}
use Rattle.cov_types.specs.Range.{IsSegInRange}
use Rattle.random_cases.proofs.segments.random_uses.Given as goal

abbrev pub invariant-loop-k : goal.invariant-loop-k
invariant-loop-k l = All (λ u. IsSegInRange u.seg) l.uses.items
