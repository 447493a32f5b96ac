use Rattle.std.proofs.Common.{take}
use Rattle.snap_noder.proofs.Cancel.{AreOddOnes}
use Rattle.snap_noder.proofs.parity.odd_ones.Given as goal

abbrev pub invariant-loop-o : goal.invariant-loop-o
invariant-loop-o l = AreOddOnes (take l.o-index l.sorted) l.odd.items
