use Rattle.std.proofs.Common.{pos, arith}
use Rattle.std.proofs.lemmas.Option.{slice_get-get_or}
use Rattle.face_walk.proofs.Settling.{nearest_none, nearest_more, nearest_all}
use Rattle.face_walk.proofs.below.nearest_by_scans.Goals as goal

pub loop-p-init : goal.loop-p-init
loop-p-init c = nearest_none c.args.edges.now c.args.points.now c.new-answers.result.items c.new-answers.ensures.items

pub loop-p-preserved : goal.loop-p-preserved
loop-p-preserved c =
    nearest_more c.args.edges.now c.args.points.now c.loop-p.p-index _ c.nearest_by_scan.result c.loop-p.answers.items c.push.new.self.items
    (slice_get-get_or c.args.points.now c.loop-p.p-index (record { x = pos 0; y = pos 0 }) c.loop-p-test.true)
    c.nearest_by_scan.ensures c.in_ok-push.ensures.items c.loop-p.invariant

pub returns : goal.returns
returns c = nearest_all c.args.edges.now c.args.points.now c.loop-p.p-index c.loop-p.answers.items (omega (arith, c.loop-p-test.false, c.loop-p.auto.p-index-end)) c.loop-p.invariant
