use Rattle.std.proofs.Common.{◌+◌, ◌*◌, ◌∙◌, ap}
use Prim.Native.Nat.{min}
use Rattle.cov_locate.proofs.Numbers.{digit_more}
use Rattle.cov_locate.proofs.line.capped_size.Goals as goal

pub loop-digit-preserved : goal.loop-digit-preserved
loop-digit-preserved c =
    digit_more c.args.digits.now c.loop-digit.digit-index c.loop-digit.size c.min-size.result 0 c.loop-digit-test.true c.loop-digit.invariant
    (c.min-size.ensures ∙ ap (λ n. min 268435457 (10 * c.loop-digit.size + n)) c.from.ensures)
