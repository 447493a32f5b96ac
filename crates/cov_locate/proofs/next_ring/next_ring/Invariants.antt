use Rattle.std.proofs.Common.{◌≤◌, ◌-◌, length}
use Rattle.cov_locate.specs.Rings.{IsNextIn}
use Rattle.cov_locate.proofs.next_ring.next_ring.Given as goal

abbrev pub decreases-loop-from : goal.decreases-loop-from
decreases-loop-from l = length l.index.numbers.items - l.from

abbrev pub invariant-loop-from : goal.invariant-loop-from
invariant-loop-from l = (l.from ≤ length l.index.numbers.items) × IsNextIn l.index.outline.uses.items l.index.outline.rings.items l.index.numbers.items l.p l.least 0 l.from l.next
