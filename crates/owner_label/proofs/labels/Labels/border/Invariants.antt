use Rattle.std.proofs.Common.{◌≡◌, ◌≤◌, ◌*◌, ◌^◌, take, sum_by}
use Rattle.arrangement.specs.Overlay.{Overlay}
use Rattle.owner_label.specs.Labelled.{IsOverlay}
use Rattle.owner_label.specs.Sides.{side_length, is_single}
use Rattle.owner_label.proofs.labels.Labels.border.Given as goal

abbrev pub invariant-loop-side : goal.invariant-loop-side
invariant-loop-side l = record {
  sum : (o : Overlay) → IsOverlay l.self o → l.border ≡ sum_by (side_length o (is_single o l.member)) (take l.side-index l.side-items);
  small : l.border ≤ l.side-index * 2 ^ 64;
}
