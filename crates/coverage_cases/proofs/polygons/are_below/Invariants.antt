use Rattle.std.proofs.Common.{ℕ, ◌<◌, get_or, None}
use Rattle.std.specs.Prelude.{IfSome}
use Rattle.coverage_cases.proofs.polygons.are_below.Given as goal

abbrev pub invariant-loop-owner : goal.invariant-loop-owner
invariant-loop-owner l = (k : ℕ) → k < l.owner-index → IfSome (get_or l.owners k None) (λ i. i < l.members)
