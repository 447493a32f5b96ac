use Rattle.snap_noder.proofs.LiveUses.{odd_uses_more, odd_uses_all}
use Rattle.snap_noder.proofs.liveness.uses_of_odd.Goals as goal

pub loop-o-init : goal.loop-o-init
loop-o-init c = c.new-uses.ensures.items

pub loop-o-preserved : goal.loop-o-preserved
loop-o-preserved c =
    odd_uses_more c.args.n.now.edges.items c.args.n.now.odd.items c.deref-o-items.result.now c.loop-o.uses.items c.push.new.self.items c.loop-o.o-index (record { member = 0; edge = 0 }) c.index.result.now
    c.args.n.now.places c.deref-o-items.ensures.value c.loop-o-test.true c.index.ensures c.loop-o.invariant c.in_ok-push.ensures.items

pub returns : goal.returns
returns c = odd_uses_all c.args.n.now.edges.items c.args.n.now.odd.items c.deref-o-items.result.now c.loop-o.uses.items c.loop-o.o-index c.deref-o-items.ensures.value c.loop-o-test.false c.loop-o.invariant
