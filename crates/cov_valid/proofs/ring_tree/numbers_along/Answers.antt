use Rattle.std.proofs.Common.{◌∙◌, ap, length, arith}
use Rattle.cov_valid.proofs.RingOrder.{numbers_of, first_more, first_sorted}
use Rattle.cov_valid.proofs.ring_tree.numbers_along.Goals as goal

pub loop-number-preserved : goal.loop-number-preserved
loop-number-preserved c = first_more c.loop-number.number c.curve_of_box.result c.loop-number.keyed.items c.push.new.self.items c.in_ok-push.ensures.items c.loop-number.invariant

pub returns : goal.returns
returns c =
    first_sorted (length c.args.boxes.now) c.loop-number.number c.loop-number.keyed.items c.sort_unstable.new.self.items c.in_ok-order.order.items
    (omega (arith, c.loop-number-test.false, c.loop-number.auto.number-end)) c.loop-number.invariant c.sort_unstable.ensures.permutation (c.in_ok-order.ensures ∙ ap numbers_of c.as_slice.ensures.value)
