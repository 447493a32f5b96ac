use Rattle.std.proofs.Common.{arith}
use Rattle.cov_locate.proofs.NextRing.{next_none, next_joined, next_all, lesser_of}
use Rattle.cov_locate.proofs.next_ring.next_ring.Goals as goal

pub loop-from-init : goal.loop-from-init
loop-from-init c =
    let index = c.args.index.now in
    (omega arith, next_none index.outline.uses.items index.outline.rings.items index.numbers.items c.args.p c.args.least c.len-next.result (omega (arith, c.len-next.ensures)))

pub loop-from-preserved : goal.loop-from-preserved
loop-from-preserved c =
    let index = c.args.index.now in
    let part = c.in_ok-part.ensures in
    let (first, second, either) = lesser_of c.loop-from.next c.in_ok-part.part.next c.min-next.result c.min-next.ensures in (
      part.ends,
      next_joined index.outline.uses.items index.outline.rings.items index.numbers.items c.args.p c.args.least 0 c.loop-from.from c.in_ok-part.part.to c.loop-from.next c.in_ok-part.part.next c.min-next.result
          first second either c.loop-from.invariant.1 part.next,
    )

pub returns : goal.returns
returns c =
    let index = c.args.index.now in
    next_all index.outline.uses.items index.outline.rings.items index.numbers.items c.args.p c.args.least c.loop-from.from c.loop-from.next c.requires.index.in_order.in_row c.requires.index.numbers_are
    (omega (arith, c.loop-from-test.false, c.len.ensures)) c.loop-from.invariant.1
