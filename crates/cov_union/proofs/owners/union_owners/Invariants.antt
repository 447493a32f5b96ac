use Rattle.std.proofs.Common.{◌≡◌, take}
use Rattle.arrangement.specs.Overlay.{Overlay}
use Rattle.cov_union.specs.Owners.{union_owners}
use Rattle.owner_label.specs.Labelled.{IsOverlay}
use Rattle.cov_union.proofs.owners.union_owners.Given as goal

abbrev pub invariant-loop-side : goal.invariant-loop-side
invariant-loop-side l = (o : Overlay) → IsOverlay l.labels o → l.owners.items ≡ union_owners o (take l.side l.numbers)
