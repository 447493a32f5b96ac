use Rattle.face_walk.proofs.Linking.{AreLinksTo}
use Rattle.face_walk.proofs.links.links_down.Given as goal

abbrev pub invariant-loop-i : goal.invariant-loop-i
invariant-loop-i l = AreLinksTo l.a l.cycles.of.items l.cycles.list.items l.sides l.below l.i l.links.items
