use Rattle.std.proofs.Common.{refl}
use Rattle.half_edge.proofs.Meeting.{bad_meets_not}
use Rattle.half_edge.proofs.Meeting.{meet_apart, meet_in_end}
use Rattle.half_edge.proofs.Deciding.{iff_true, iff_false}
use Rattle.half_edge.proofs.noded.meets_in_ends.Goals as goal

pub returns-in-Apart : goal.returns-in-Apart
returns-in-Apart c = iff_true (meet_apart c.args.e c.args.f c.in-Apart.ensures.exact)

pub returns-in-CommonEnd : goal.returns-in-CommonEnd
returns-in-CommonEnd c = iff_true (meet_in_end c.args.e c.args.f c.in-CommonEnd.ensures.exact)

pub returns-in-Bad : goal.returns-in-Bad
returns-in-Bad c = iff_false (bad_meets_not c.args.e c.args.f (c.in-Bad.ensures.bad.0 refl))
