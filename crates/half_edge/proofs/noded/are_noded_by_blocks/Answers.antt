use Rattle.std.proofs.Common.{arith}
use Rattle.half_edge.proofs.Deciding.{iff_true, iff_false, by_true, by_false}
use Rattle.half_edge.proofs.Meeting.{noded_then, noded_all, noded_fails}
use Rattle.half_edge.proofs.noded.are_noded_by_blocks.Goals as goal

pub returns-then-not-branch : goal.returns-then-not-branch
returns-then-not-branch c =
    iff_false
    (noded_fails c.args.edges.now c.loop-from.from c.min-to.result (omega (arith, c.min-to.ensures)) (by_false c.in_ok-are_noded_from.field-0 c.in_ok-are_noded_from.ensures c.if-not-branch.true))

pub loop-from-preserved : goal.loop-from-preserved
loop-from-preserved c = (
  omega (arith, c.min-to.ensures),
  noded_then c.args.edges.now 0 c.loop-from.from c.min-to.result c.loop-from.invariant.1 (by_true c.in_ok-are_noded_from.field-0 c.in_ok-are_noded_from.ensures c.if-not-branch.false),
)

pub returns : goal.returns
returns c = iff_true (noded_all c.args.edges.now c.loop-from.from (omega (arith, c.loop-from-test.false)) c.loop-from.invariant.1)
