use Rattle.fault_text.specs.MapText.{map_feature_text}
use Rattle.fault_text.proofs.Collection.{collection_appended}
use Rattle.fault_text.proofs.map.map_text.Goals as goal

pub returns : goal.returns
returns c = record {
  bytes = collection_appended (map_feature_text c.args.scale) c.args.features.now _ _ _ _
      c.new-out.ensures.items c.in_ok-extend_from_slice.ensures.items c.in_ok-append_separated.ensures c.in_ok-extend_from_slice-2.ensures.items;
}
