use Rattle.cov_valid.proofs.RingOrder.{AreReadTo}
use Rattle.cov_valid.proofs.ring_tree.boxes_at.Given as goal

abbrev pub invariant-loop-number : goal.invariant-loop-number
invariant-loop-number l = AreReadTo l.boxes l.order l.number-index l.moved.items
