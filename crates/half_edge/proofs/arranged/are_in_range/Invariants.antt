use Rattle.std.specs.List.{AllWithin}
use Rattle.cov_types.specs.Range.{IsSegInRange}
use Rattle.half_edge.proofs.arranged.are_in_range.Given as goal

abbrev pub invariant-loop-e : goal.invariant-loop-e
invariant-loop-e l = AllWithin IsSegInRange l.edges 0 l.e-index
