use Rattle.std.specs.Prelude.{All}
use Rattle.cov_types.specs.Range.{IsSegInRange}
use Rattle.coverage_cases.proofs.noding.edge_uses.Given as goal

abbrev pub invariant-loop-member : goal.invariant-loop-member
invariant-loop-member g l = All (λ u. IsSegInRange u.seg) l.list.items
