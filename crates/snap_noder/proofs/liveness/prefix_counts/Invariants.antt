use Rattle.std.proofs.Common.{◌≡◌, take}
use Rattle.snap_noder.specs.Marked.{ArePrefixCounts, marked_before}
use Rattle.snap_noder.proofs.liveness.prefix_counts.Given as goal

abbrev pub invariant-loop-mark : goal.invariant-loop-mark
invariant-loop-mark l = record { counted : l.so_far ≡ marked_before l.marks l.mark-index; so_far : ArePrefixCounts (take l.mark-index l.marks) l.counts.items }
