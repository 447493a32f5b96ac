use Rattle.std.proofs.Common.{◌≡◌, ℕ, All, take, sum_by}
use Rattle.arrangement.specs.Overlay.{Overlay}
use Rattle.owner_label.specs.Labelled.{IsOverlay, owner_in}
use Rattle.owner_label.specs.OwnedSides.{IsOwnedSide, owned_length}
use Rattle.owner_label.specs.Sides.{side_length, is_owned}
use Rattle.owner_label.proofs.labels.Labels.owned_sides.Given as goal

abbrev pub invariant-loop-side : goal.invariant-loop-side
invariant-loop-side l = record {
  sum : (o : Overlay) (member : ℕ) → IsOverlay l.self o → owned_length l.list.items member ≡ sum_by (side_length o (is_owned o (owner_in l.owners) member)) (take l.side-index l.side-items);
  each : All (IsOwnedSide l.owners) l.list.items;
}
