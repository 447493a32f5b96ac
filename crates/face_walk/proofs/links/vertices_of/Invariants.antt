use Rattle.face_walk.proofs.Linking.{AreVerticesTo}
use Rattle.face_walk.proofs.links.vertices_of.Given as goal

abbrev pub invariant-loop-side : goal.invariant-loop-side
invariant-loop-side l = AreVerticesTo l.a l.sides l.side-index l.vertices.items
