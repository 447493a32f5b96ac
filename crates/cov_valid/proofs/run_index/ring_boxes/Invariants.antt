use Rattle.cov_valid.proofs.RingBoxes.{AreBoxesTo}
use Rattle.cov_valid.proofs.run_index.ring_boxes.Given as goal

abbrev pub invariant-loop-run : goal.invariant-loop-run
invariant-loop-run l = AreBoxesTo l.outline.uses.items l.outline.rings.items l.run-index l.boxes.items
