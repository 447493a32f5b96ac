use Rattle.face_walk.proofs.Settling.{AreNearestTo}
use Rattle.face_walk.proofs.below.nearest_by_scans.Given as goal

abbrev pub invariant-loop-p : goal.invariant-loop-p
invariant-loop-p l = AreNearestTo l.edges l.points l.p-index l.answers.items
