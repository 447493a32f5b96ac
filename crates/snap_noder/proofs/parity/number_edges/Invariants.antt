use Rattle.std.proofs.Common.{take}
use Rattle.snap_noder.specs.Places.{HaveEdgeNumbers}
use Rattle.snap_noder.proofs.parity.number_edges.Given as goal

abbrev pub invariant-loop-u : goal.invariant-loop-u
invariant-loop-u l = HaveEdgeNumbers (take l.u-index l.uses) l.edges.items l.pairs.items
