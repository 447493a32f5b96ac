use Rattle.std.proofs.Common.{◌≡◌, ◌-◌, ◌<◌, ℕ, Some, slice_get, length}
use Rattle.owner_label.specs.Spread.{IsSpread, IsBegun, IsLeft}
use Rattle.owner_label.proofs.spread.labels_of_regions.Given as goal

abbrev pub invariant-loop-next : goal.invariant-loop-next
invariant-loop-next l = record {
  spread : IsSpread l.map l.spread;
  begun : IsBegun l.map l.spread;
  left : (i r : ℕ) → i < l.next → slice_get l.spread.queue.items i ≡ Some r → IsLeft l.map l.spread r;
}

abbrev pub decreases-loop-next : goal.decreases-loop-next
decreases-loop-next l = length l.map.regions - l.next
