use Rattle.std.proofs.Common.{length, map, sym, arith}
use Rattle.std.proofs.lemmas.List.{length-map}
use Rattle.serde_json.specs.View.{view}
use Rattle.geo_json.proofs.Points.{position_taken, no_position}
use Rattle.geo_json.proofs.coordinates.position.Goals as goal

pub returns-then-list-lt2 : goal.returns-then-list-lt2
returns-then-list-lt2 c =
    let list = c.in_ok-list.list.now in
    no_position (view c.args.value.now) (map view list) c.in_ok-list.ensures (omega (arith, length-map list view))

pub returns : goal.returns
returns c =
    let list = c.in_ok-list.list.now in
    position_taken (view c.args.value.now) (map view list) c.args.noted.now c.ordinates.new.noted c.take_position.new.self c.in_ok-point.point (length list)
    c.in_ok-list.ensures (sym (length-map list view)) (omega arith) c.in_ok-point.ensures c.take_position.ensures
