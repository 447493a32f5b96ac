use Rattle.std.proofs.Common.{arith}
use Rattle.gap_width.proofs.Most.{narrow_from}
use Rattle.gap_width.proofs.gaps.GapSearch.narrow.Goals as goal

pub returns : goal.returns
returns c = narrow_from c.args.self.now c.args.region c.in_ok-most.field-0 c.args.w (omega (arith, c.if-w-eq0.false)) c.in_ok-most.ensures.most
