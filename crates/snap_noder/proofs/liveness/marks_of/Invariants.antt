use Rattle.std.proofs.Common.{take}
use Rattle.snap_noder.specs.Marked.{AreUseMarks}
use Rattle.snap_noder.proofs.liveness.marks_of.Given as goal

abbrev pub invariant-loop-o : goal.invariant-loop-o
invariant-loop-o l = AreUseMarks l.n.edges.items (take l.o-index l.n.odd.items) l.marks.items
