use Rattle.std.proofs.Common.{take}
use Rattle.cov_union.proofs.Cancelled.{AreOddSegments}
use Rattle.cov_union.proofs.rim.odd_segments.Given as goal

abbrev pub invariant-loop-s : goal.invariant-loop-s
invariant-loop-s l = AreOddSegments (take l.s-index l.sorted) l.odd.items
