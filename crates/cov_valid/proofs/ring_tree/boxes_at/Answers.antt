use Rattle.cov_valid.proofs.RingOrder.{read_more, read_all}
use Rattle.cov_valid.proofs.ring_tree.boxes_at.Goals as goal

pub loop-number-preserved : goal.loop-number-preserved
loop-number-preserved c =
    let i = c.loop-number.number-index in
    read_more c.args.boxes.now c.args.order.now i c.index-boxes-number.result c.loop-number.moved.items c.push.new.self.items c.loop-number-test.true
    (c.requires i 0 c.loop-number-test.true) c.index-boxes-number.is c.in_ok-push.ensures.items c.loop-number.invariant

pub returns : goal.returns
returns c = read_all c.args.boxes.now c.args.order.now c.loop-number.number-index c.loop-number.moved.items c.loop-number-test.false c.loop-number.invariant
