use Rattle.std.proofs.Common.{ap, ◌∙◌}
use Rattle.half_edge.proofs.AlongCurve.{keyless, keyed_more, sorted_same}
use Rattle.half_edge.proofs.noded.along_curve.Goals as goal

pub loop-e-init : goal.loop-e-init
loop-e-init c = ap keyless c.in_ok-keyed.ensures.items

pub loop-e-preserved : goal.loop-e-preserved
loop-e-preserved c = keyed_more c.args.edges.now c.loop-e.keyed.items c.push.new.self.items c.loop-e.e-index _ c.e-item.result c.loop-e-test.true c.e-item.is c.loop-e.invariant c.in_ok-push.ensures.items

pub returns : goal.returns
returns c =
    sorted_same c.args.edges.now c.loop-e.keyed.items c.sort_unstable.new.self.items c.in_ok-along.along.items c.loop-e.e-index c.loop-e-test.false c.loop-e.invariant c.sort_unstable.ensures.permutation
    (c.in_ok-along.ensures ∙ ap keyless c.as_slice.ensures.value)
