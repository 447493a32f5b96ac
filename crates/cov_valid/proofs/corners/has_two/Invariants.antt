use Rattle.cov_valid.proofs.CornerFaults.{AreApartTo}
use Rattle.cov_valid.proofs.corners.has_two.Given as goal

abbrev pub invariant-loop-k : goal.invariant-loop-k
invariant-loop-k l = AreApartTo l.entries l.k
