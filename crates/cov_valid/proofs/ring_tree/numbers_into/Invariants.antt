use Rattle.cov_valid.proofs.RingOrder.{AreReadTo}
use Rattle.cov_valid.proofs.ring_tree.numbers_into.Given as goal

abbrev pub invariant-loop-k : goal.invariant-loop-k
invariant-loop-k l = AreReadTo l.order l.places l.k-index l.found.items
