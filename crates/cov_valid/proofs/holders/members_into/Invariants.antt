use Rattle.std.proofs.Common.{take}
use Rattle.cov_valid.proofs.Runs.{AreHeldAt}
use Rattle.cov_valid.proofs.holders.members_into.Given as goal
use Rattle.plane.specs.Segment.{midpoint}

abbrev pub invariant-loop-k : goal.invariant-loop-k
invariant-loop-k l = AreHeldAt l.outline.uses.items (midpoint l.s) l.outline.rings.items (take l.k-index l.rings) l.members.items
