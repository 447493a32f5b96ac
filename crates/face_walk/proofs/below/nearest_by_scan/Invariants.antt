use Rattle.std.proofs.Common.{ℕ, ◌<◌}
use Rattle.plane.specs.Point.{at_coord}
use Rattle.face_walk.specs.Nearest.{IsCandidate, IsSettled}
use Rattle.face_walk.proofs.below.nearest_by_scan.Given as goal

abbrev pub invariant-loop-k : goal.invariant-loop-k
invariant-loop-k l = record {
  candidate : IsCandidate l.edges (at_coord l.p) l.nearest;
  settled : (i : ℕ) → i < l.k → IsSettled l.edges (at_coord l.p) l.nearest i;
}
