-- The features that were gone over are written.
use Rattle.std.proofs.Common.{map, take}
use Rattle.serde_json.specs.View.{view}
use Rattle.json_write.specs.Text.{features_from}
use Rattle.json_write.proofs.Features.{AreAppended}
use Rattle.json_write.proofs.document.append_features.Given as goal

abbrev pub invariant-loop-i : goal.invariant-loop-i
invariant-loop-i l = AreAppended (take l.i (features_from l.members (map view l.properties) (map view l.ids))) l.initial.out.items l.out.items
