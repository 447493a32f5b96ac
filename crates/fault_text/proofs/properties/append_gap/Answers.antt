use Rattle.std.proofs.lemmas.Int.{to_z-of_z}
use Rattle.fault_text.proofs.PropertyPieces.{gap_appended}
use Rattle.fault_text.proofs.properties.append_gap.Goals as goal

pub returns : goal.returns
returns c =
    let area = simp (to_z-of_z, c.ranges.area2) at c.in_ok-append_number.ensures in
    gap_appended c.args.area2 c.args.clearance c.args.region c.args.members.now c.args.out.now.items _ _ _ _ _ _ _ _ _
    c.in_ok-extend_from_slice.ensures.items area c.in_ok-extend_from_slice-2.ensures.items c.in_ok-append_number-2.ensures
    c.in_ok-extend_from_slice-3.ensures.items c.in_ok-append_number-3.ensures c.in_ok-extend_from_slice-4.ensures.items c.in_ok-append_members.ensures
    c.in_ok-push.ensures.items
