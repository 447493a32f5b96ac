use Rattle.std.proofs.Common.{◌≡◌, take}
use Rattle.snap_noder.specs.Snapped.{AreSnappedOver}
use Rattle.snap_noder.proofs.Snapping.{IsChainBefore}
use Rattle.snap_noder.proofs.noding.snapped_uses.Given as goal

abbrev pub invariant-loop-i : goal.invariant-loop-i
invariant-loop-i l = record { same : l.hot ≡ l.fn.hot; so_far : AreSnappedOver l.fn.hot (take l.i l.uses) l.snapped.items; chain : IsChainBefore l.fn.hot l.uses l.i l.chain.items }
