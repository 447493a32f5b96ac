use Rattle.std.proofs.Common.{arith}
use Rattle.std.proofs.lemmas.Option.{slice_get-get_or}
use Rattle.face_walk.proofs.Linking.{vertices_none, vertices_more, vertices_all}
use Rattle.face_walk.proofs.links.vertices_of.Goals as goal

pub loop-side-init : goal.loop-side-init
loop-side-init c = vertices_none c.args.a.now c.args.sides.now c.new-vertices.result.items c.new-vertices.ensures.items

pub loop-side-preserved : goal.loop-side-preserved
loop-side-preserved c =
    vertices_more c.args.a.now c.args.sides.now c.loop-side.side-index _ c.origin.result c.loop-side.vertices.items c.push.new.self.items
    (slice_get-get_or c.args.sides.now c.loop-side.side-index 0 c.loop-side-test.true) c.origin.ensures c.in_ok-push.ensures.items c.loop-side.invariant

pub returns : goal.returns
returns c = vertices_all c.args.a.now c.args.sides.now c.loop-side.side-index c.loop-side.vertices.items (omega (arith, c.loop-side-test.false, c.loop-side.auto.side-index-end)) c.loop-side.invariant
