use Rattle.std.proofs.Common.{◌∙◌}
use Rattle.json_write.proofs.Pieces.{polygon_appended, polygons_appended}
use Rattle.json_write.proofs.geometry.append_geometry.Goals as goal

pub returns-in_ok-extend_from_slice-in-len1-2 : goal.returns-in_ok-extend_from_slice-in-len1-2
returns-in_ok-extend_from_slice-in-len1-2 c =
    polygon_appended c.as_slice.result.now c.args.member.now c.poly-item.result c.args.out.now.items _ _ _ (c.as_slice.ensures.value ∙ c.member.view_is) c.in-len1.len_at_least c.in-len1.len_below
    c.poly-item.is c.in_ok-extend_from_slice-in-len1.ensures.items c.in_ok-append_to-in-len1.ensures c.in_ok-extend_from_slice-in-len1-2.ensures.items

pub returns-in_ok-extend_from_slice-in_default-2 :
    goal.returns-in_ok-extend_from_slice-in_default-2
returns-in_ok-extend_from_slice-in_default-2 c =
    polygons_appended c.as_slice.result.now c.args.member.now c.args.out.now.items _ _ _ (c.as_slice.ensures.value ∙ c.member.view_is) c.in_default.len_at_least
    c.in_ok-extend_from_slice-in_default.ensures.items c.in_ok-append_separated-in_default.ensures c.in_ok-extend_from_slice-in_default-2.ensures.items
