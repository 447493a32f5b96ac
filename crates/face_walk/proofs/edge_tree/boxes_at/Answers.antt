use Rattle.std.proofs.Common.{◌<◌, refl, length, get_or, arith}
use Rattle.std.proofs.lemmas.Option.{slice_get-get_or, slice_get_read}
use Rattle.face_walk.proofs.Searching.{boxes_more, boxes_all}
use Rattle.face_walk.proofs.edge_tree.boxes_at.Goals as goal

pub loop-place-preserved : goal.loop-place-preserved
loop-place-preserved c =
    let edges = c.args.edges.now in
    let places = c.args.places.now in
    let k = c.loop-place.place-index in
    let below : k < length places = c.loop-place-test.true in
    let e = c.index-edges-place.result in
    boxes_more edges places k (get_or places k 0) e c.of_segment.result c.loop-place.boxes.items c.push.new.self.items (slice_get-get_or places k 0 below)
    (slice_get_read edges (length edges) (get_or places k 0) e refl (c.requires k 0 below) c.index-edges-place.is) c.of_segment.ensures c.in_ok-push.ensures.items c.loop-place.invariant

pub returns : goal.returns
returns c = boxes_all c.args.edges.now c.args.places.now c.loop-place.place-index c.loop-place.boxes.items (omega (arith, c.loop-place-test.false, c.loop-place.auto.place-index-end)) c.loop-place.invariant
