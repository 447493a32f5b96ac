use Rattle.face_walk.proofs.Searching.{AreBoxesTo}
use Rattle.face_walk.proofs.edge_tree.boxes_at.Given as goal

abbrev pub invariant-loop-place : goal.invariant-loop-place
invariant-loop-place l = AreBoxesTo l.edges l.places l.place-index l.boxes.items
