use Rattle.snap_noder.proofs.Snapping.{AlongSoFar}
use Rattle.snap_noder.proofs.noding.add_chain.Given as goal

abbrev pub invariant-loop-i : goal.invariant-loop-i
invariant-loop-i l = AlongSoFar l.fn.uses.items l.u l.chain l.i l.uses.items
