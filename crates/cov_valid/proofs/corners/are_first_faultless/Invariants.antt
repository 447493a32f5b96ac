use Rattle.cov_valid.specs.Corners.{AreFirstFaultless}
use Rattle.cov_valid.proofs.corners.are_first_faultless.Given as goal

abbrev pub invariant-loop-k : goal.invariant-loop-k
invariant-loop-k l = AreFirstFaultless l.outline.uses.items l.groups l.k
