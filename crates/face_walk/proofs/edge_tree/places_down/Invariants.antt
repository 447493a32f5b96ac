use Rattle.face_walk.specs.Boxes.{AreFirstPlaces}
use Rattle.face_walk.proofs.Searching.{places_of}
use Rattle.face_walk.proofs.edge_tree.places_down.Given as goal

abbrev pub invariant-loop-place : goal.invariant-loop-place
invariant-loop-place l = AreFirstPlaces l.place (places_of l.keyed.items)
