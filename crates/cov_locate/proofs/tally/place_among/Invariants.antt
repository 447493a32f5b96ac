use Rattle.std.proofs.Common.{drop}
use Rattle.cov_locate.proofs.Tallying.{IsToldTo}
use Rattle.cov_locate.proofs.tally.place_among.Given as goal

abbrev pub invariant-loop-ring : goal.invariant-loop-ring
invariant-loop-ring l = IsToldTo l.outline.uses.items l.outline.rings.items l.p l.so_far.passed l.so_far.tally (drop l.ring-index l.near)
