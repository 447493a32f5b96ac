use Rattle.std.proofs.Common.{◌-◌, length}
use Rattle.cov_locate.proofs.LeastHolder.{IsSeen}
use Rattle.cov_locate.proofs.holder.place_in.Given as goal

abbrev pub decreases-loop-number : goal.decreases-loop-number
decreases-loop-number l = length l.rings - l.passed

abbrev pub invariant-loop-number : goal.invariant-loop-number
invariant-loop-number l = IsSeen l.index.outline.uses.items l.index.outline.rings.items l.p l.passed l.member l.odd
