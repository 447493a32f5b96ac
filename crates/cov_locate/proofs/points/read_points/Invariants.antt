use Rattle.std.proofs.Common.{All, length}
use Rattle.cov_locate.proofs.Lines.{IsReadTo}
use Rattle.cov_locate.proofs.points.read_points.Given as goal
use Rattle.cov_types.specs.Range.{IsInRange}

abbrev pub decreases-loop-rest : goal.decreases-loop-rest
decreases-loop-rest l = length l.rest

abbrev pub invariant-loop-rest : goal.invariant-loop-rest
invariant-loop-rest l = IsReadTo l.bytes l.rest l.number l.points.items × All IsInRange l.points.items
