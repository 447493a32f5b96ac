use Rattle.std.proofs.Common.{refl}
use Rattle.serde_json.specs.View.{view}
use Rattle.json_write.specs.Text.{Feature, feature_text}
use Rattle.json_write.proofs.Pieces.{piece_more, three_pieces}
use Rattle.json_write.proofs.document.append_feature.Goals as goal

pub returns : goal.returns
returns c =
    let id = c.in_ok-append_id.ensures in
    let properties = c.in_ok-append_value.ensures in
    let f : Feature = record { polys = c.args.member.now; properties = view c.args.properties.now; id = view c.args.id.now } in
    let front = three_pieces c.args.out.now.items _ _ _ _ _ _ c.in_ok-extend_from_slice.ensures.items c.in_ok-append_geometry.ensures id.2 in
    let named = piece_more c.args.out.now.items _ _ _ _ front c.in_ok-extend_from_slice-2.ensures.items in
    let valued = piece_more c.args.out.now.items _ _ _ _ named properties.2 in
    let all = piece_more c.args.out.now.items _ _ _ _ valued c.in_ok-extend_from_slice-3.ensures.items in
    (feature_text f id.0 properties.0, record { id = id.0; properties = properties.0; id_is = id.1; properties_is = properties.1; text_is = refl }, all)
