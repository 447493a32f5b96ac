use Rattle.cov_locate.proofs.RingBoxes.{AreBoxesTo}
use Rattle.cov_locate.proofs.ring_index.ring_boxes.Given as goal

abbrev pub invariant-loop-number : goal.invariant-loop-number
invariant-loop-number l = AreBoxesTo l.outline.uses.items l.outline.rings.items l.numbers l.number-index l.boxes.items
