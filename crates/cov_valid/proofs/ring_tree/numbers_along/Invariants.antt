use Rattle.cov_valid.specs.RingTree.{AreFirstNumbers}
use Rattle.cov_valid.proofs.RingOrder.{numbers_of}
use Rattle.cov_valid.proofs.ring_tree.numbers_along.Given as goal

abbrev pub invariant-loop-number : goal.invariant-loop-number
invariant-loop-number l = AreFirstNumbers l.number (numbers_of l.keyed.items)
