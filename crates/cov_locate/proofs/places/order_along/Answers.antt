use Rattle.std.proofs.Common.{◌∙◌, ap, length, arith}
use Rattle.cov_locate.proofs.Numbering.{numbers_of, number_more, numbers_sorted}
use Rattle.cov_locate.proofs.places.order_along.Goals as goal

pub loop-number-preserved : goal.loop-number-preserved
loop-number-preserved c = number_more c.loop-number.number c.curve.result c.loop-number.keyed.items c.push.new.self.items c.in_ok-push.ensures.items c.loop-number.invariant

pub returns : goal.returns
returns c =
    numbers_sorted (length c.args.points.now) c.loop-number.number c.loop-number.keyed.items c.sort_unstable.new.self.items c.in_ok-numbers.numbers.items
    (omega (arith, c.loop-number-test.false, c.loop-number.auto.number-end)) c.loop-number.invariant c.sort_unstable.ensures.permutation (c.in_ok-numbers.ensures ∙ ap numbers_of c.as_slice.ensures.value)
