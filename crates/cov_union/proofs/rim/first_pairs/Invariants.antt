use Rattle.cov_union.specs.Rim.{AreFirstPairs}
use Rattle.cov_union.proofs.rim.first_pairs.Given as goal

abbrev pub invariant-loop-edge : goal.invariant-loop-edge
invariant-loop-edge l = AreFirstPairs l.edge l.odd.items
