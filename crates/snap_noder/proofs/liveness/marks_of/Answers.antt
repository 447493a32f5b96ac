use Rattle.snap_noder.proofs.Marking.{marks_read}
use Rattle.snap_noder.proofs.liveness.marks_of.Goals as goal

pub loop-o-preserved : goal.loop-o-preserved
loop-o-preserved c =
    marks_read c.args.n.now.edges.items c.args.n.now.odd.items c.deref-o-items.result.now c.loop-o.marks.items c.loop-o.o-index (record { member = 0; edge = 0 }) c.deref-o-items.ensures.value c.loop-o-test.true
    c.args.n.now.places c.loop-o.invariant
