use Rattle.std.proofs.lemmas.Int.{to_z-of_z}
use Rattle.fault_text.proofs.PropertyPieces.{overlap_appended}
use Rattle.fault_text.proofs.properties.append_overlap.Goals as goal

pub returns : goal.returns
returns c =
    let area = simp (to_z-of_z, c.ranges.area2) at c.in_ok-append_number.ensures in
    overlap_appended c.args.members.now c.args.area2 c.args.region c.args.out.now.items _ _ _ _ _ _ _
    c.in_ok-extend_from_slice.ensures.items c.in_ok-append_members.ensures c.in_ok-extend_from_slice-2.ensures.items area
    c.in_ok-extend_from_slice-3.ensures.items c.in_ok-append_number-2.ensures c.in_ok-push.ensures.items
