use Rattle.std.proofs.Common.{ℕ, ◌+◌, ◌<◌, ◌≤◌, ◌^◌}
use Rattle.gap_width.specs.Depth.{Divides}
use Rattle.gap_width.proofs.depth.common_divisor.Given as goal

abbrev pub invariant-loop-lesser : goal.invariant-loop-lesser
invariant-loop-lesser l = record {
  some : 0 < l.greater + l.lesser;
  greater_small : l.greater ≤ 2 ^ 32;
  lesser_small : l.lesser ≤ 2 ^ 32;
  divides : (d : ℕ) → Divides d l.greater → Divides d l.lesser → Divides d l.a × Divides d l.b;
}

abbrev pub decreases-loop-lesser : goal.decreases-loop-lesser
decreases-loop-lesser l = l.lesser
