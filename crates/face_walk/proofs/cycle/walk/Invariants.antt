use Rattle.std.proofs.Common.{◌*◌, ◌==◌, length, count_by}
use Rattle.face_walk.proofs.Marking.{IsWalking}
use Rattle.face_walk.proofs.cycle.walk.Given as goal

abbrev pub invariant-round : goal.invariant-round
invariant-round l = IsWalking l.a l.start l.mark l.h l.first l.fn.marks l.marks

abbrev pub decreases-round : goal.decreases-round
decreases-round l = count_by (λ x. x == 2 * length l.a) l.marks
