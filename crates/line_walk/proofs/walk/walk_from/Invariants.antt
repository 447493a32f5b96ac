use Rattle.std.proofs.Common.{◌-◌, length}
use Rattle.line_walk.proofs.Walking.{IsWalking}
use Rattle.line_walk.proofs.walk.walk_from.Given as goal

abbrev pub invariant-walk : goal.invariant-walk
invariant-walk l = IsWalking l.edges l.from l.fn.first l.points.items l.passed.items l.to l.last

abbrev pub decreases-walk : goal.decreases-walk
decreases-walk l = length l.edges - length l.passed.items
