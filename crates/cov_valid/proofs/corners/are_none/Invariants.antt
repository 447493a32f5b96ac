use Rattle.std.proofs.Common.{◌≡◌, ℕ, ◌<◌, get_or, Option, None}
use Rattle.cov_valid.specs.declared.mark.Kind.{Kind}
use Rattle.cov_valid.proofs.corners.are_none.Given as goal

abbrev pub invariant-loop-kind : goal.invariant-loop-kind
invariant-loop-kind l = (k : ℕ) (o : Option Kind) → k < l.kind-index → get_or l.kinds k o ≡ None
