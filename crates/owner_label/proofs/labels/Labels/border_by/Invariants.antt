use Rattle.std.proofs.Common.{◌≡◌, ◌≤◌, ◌*◌, ◌^◌, take, sum_by}
use Rattle.arrangement.specs.Overlay.{Overlay}
use Rattle.owner_label.specs.Labelled.{IsOverlay, owner_in}
use Rattle.owner_label.specs.Sides.{side_length, is_owned}
use Rattle.owner_label.proofs.labels.Labels.border_by.Given as goal

abbrev pub invariant-loop-side : goal.invariant-loop-side
invariant-loop-side l = record {
  sum : (o : Overlay) → IsOverlay l.self o → l.border ≡ sum_by (side_length o (is_owned o (owner_in l.owners) l.member)) (take l.side-index l.side-items);
  small : l.border ≤ l.side-index * 2 ^ 64;
}
