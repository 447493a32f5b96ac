use Rattle.std.proofs.Common.{◌≡◌, take}
use Rattle.arrangement.specs.Noding.{odd_uses}
use Rattle.snap_noder.proofs.liveness.uses_of_odd.Given as goal

abbrev pub invariant-loop-o : goal.invariant-loop-o
invariant-loop-o l = l.uses.items ≡ odd_uses l.n.edges.items (take l.o-index l.n.odd.items)
