use Rattle.std.proofs.Common.{cond, true, false, count_by}
use Rattle.cov_build.proofs.Walking.{IsWalking}
use Rattle.cov_build.proofs.ring.walk.Given as goal

abbrev pub invariant-round : goal.invariant-round
invariant-round l = IsWalking l.a l.start l.fn.seen l.h l.way.items l.seen

abbrev pub decreases-round : goal.decreases-round
decreases-round l = count_by (λ b. cond b false true) l.seen
