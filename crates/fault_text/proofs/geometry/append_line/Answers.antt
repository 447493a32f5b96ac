use Rattle.std.specs.Prelude.{codes}
use Rattle.fault_text.specs.MapText.{scaled_line}
use Rattle.json_write.proofs.Pieces.{three_pieces}
use Rattle.fault_text.proofs.geometry.append_line.Goals as goal

pub returns : goal.returns
returns c =
    three_pieces c.args.out.now.items (codes "{\"coordinates\":") (scaled_line c.args.scale c.args.segment.now) (codes ",\"type\":\"LineString\"}") _ _ _
    c.in_ok-extend_from_slice.ensures.items c.in_ok-append_to.ensures c.in_ok-extend_from_slice-2.ensures.items
