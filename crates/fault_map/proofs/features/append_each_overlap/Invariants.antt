use Rattle.std.proofs.Common.{◌≡◌, ◌++◌, length, take}
use Rattle.arrangement.specs.Overlay.{Overlay}
use Rattle.owner_label.specs.Labelled.{IsOverlay}
use Rattle.fault_map.specs.FaultMap.{AreAppended, IsOverlapFeature}
use Rattle.fault_map.proofs.features.append_each_overlap.Given as goal

abbrev pub invariant-loop-polygon : goal.invariant-loop-polygon
invariant-loop-polygon l = record {
  place : l.place ≡ length l.yielded;
  appended : (o : Overlay) → IsOverlay l.labels o → AreAppended (IsOverlapFeature o) (take l.place l.listed) l.initial.features.items l.features.items;
  left : l.yielded ++ l.polygon-iterator.rest.items ≡ l.fn.polygons.items;
}
