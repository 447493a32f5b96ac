use Rattle.std.proofs.Common.{◌≡◌, length, take}
use Rattle.arrangement.specs.Overlay.{Overlay}
use Rattle.region_owners.specs.Owner.{neighbour_of}
use Rattle.owner_label.specs.Labelled.{IsOverlay, owner_in}
use Rattle.cov_clean.specs.Filled.{AreFilled}
use Rattle.cov_clean.specs.Longest.{AreClear}
use Rattle.cov_clean.proofs.gaps.filled_owners.Given as goal

abbrev pub invariant-loop-gap : goal.invariant-loop-gap
invariant-loop-gap l = record {
  filled : (o : Overlay) → IsOverlay l.labels o → o.members ≡ l.members → AreFilled (neighbour_of o (owner_in l.owners.items)) l.owners.items (take l.gap-index l.gaps) l.filled.items;
  long : length l.filled.items ≡ length l.owners.items;
  clear : AreClear l.borders.lengths.items;
  count : length l.borders.lengths.items ≡ l.members;
}
