use Rattle.half_edge.proofs.Deciding.{iff_false}
use Rattle.half_edge.proofs.Ascending.{ascend_more, ascend_fails, before_from_test, not_before_from_test}
use Rattle.half_edge.proofs.arranged.are_ascending.Goals as goal

pub loop-i-preserved : goal.loop-i-preserved
loop-i-preserved c = ascend_more c.args.edges.now c.loop-i.i c.index-edges-i.result c.index-edges-i-in-loop-i.result c.loop-i.auto.i c.loop-i-test.true c.index-edges-i.is c.index-edges-i-in-loop-i.is
    (before_from_test c.index-edges-i.result c.index-edges-i-in-loop-i.result c.ge.result c.ge.ensures c.if-ge.false) c.loop-i.invariant

pub returns-then-ge : goal.returns-then-ge
returns-then-ge c = iff_false (ascend_fails c.args.edges.now c.loop-i.i c.index-edges-i.result c.index-edges-i-in-loop-i.result c.loop-i.auto.i c.loop-i-test.true c.index-edges-i.is c.index-edges-i-in-loop-i.is
    (not_before_from_test c.index-edges-i.result c.index-edges-i-in-loop-i.result c.ge.result c.ge.ensures c.if-ge.true))
