use Rattle.std.proofs.Common.{◌≤◌, ◌-◌, length}
use Rattle.half_edge.specs.Arranged.{AreNodedFrom}
use Rattle.half_edge.proofs.noded.are_noded_by_blocks.Given as goal

abbrev pub invariant-loop-from : goal.invariant-loop-from
invariant-loop-from l = (l.from ≤ length l.edges) × AreNodedFrom l.edges 0 l.from

abbrev pub decreases-loop-from : goal.decreases-loop-from
decreases-loop-from l = length l.edges - l.from
