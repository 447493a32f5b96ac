use Rattle.face_walk.proofs.Linking.{AreOverRayTo}
use Rattle.face_walk.proofs.links.sides_over_ray.Given as goal

abbrev pub invariant-loop-h : goal.invariant-loop-h
invariant-loop-h l = AreOverRayTo l.a l.cycles.of.items l.cycles.list.items l.h l.sides.items
