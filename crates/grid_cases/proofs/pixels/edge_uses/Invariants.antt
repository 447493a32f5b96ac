-- The segments so far are in range.
use Rattle.std.specs.Prelude.{All}
use Rattle.cov_types.specs.Range.{IsSegInRange}
use Rattle.grid_cases.proofs.pixels.edge_uses.Given as goal

abbrev pub invariant-loop-ends : goal.invariant-loop-ends
invariant-loop-ends g l = All (λ u. IsSegInRange u.seg) l.uses.items
