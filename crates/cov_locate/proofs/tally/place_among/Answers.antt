use Rattle.std.proofs.Common.{◌+◌, drop, sym, subst, arith}
use Rattle.cov_locate.proofs.NearRings.{next_near, none_near}
use Rattle.cov_locate.proofs.Tallying.{IsToldTo, told_none, told_with, told_all}
use Rattle.cov_locate.proofs.tally.place_among.Goals as goal
use Rattle.cov_locate.specs.Near.{AreFar, AreNear, IsNearRing}
use Rattle.cov_locate.specs.Where.{IsWhere}
use Rattle.cov_locate.specs.declared.near.NearRing.{NearRing}
use Rattle.cov_types.specs.Rings.{IsRing}

pub told_with-requires-clause-ring : goal.told_with-requires-clause-ring
told_with-requires-clause-ring c =
    let outline = c.args.outline.now in
    let ring : NearRing = c.ring-item.result in
    let next = next_near outline.uses.items outline.rings.items c.args.p c.loop-ring.so_far.passed c.loop-ring.ring-index ring c.args.near.now c.loop-ring-test.true c.loop-ring.invariant.near in
    let is : IsNearRing outline.uses.items outline.rings.items c.args.p ring = subst (IsNearRing outline.uses.items outline.rings.items c.args.p) (sym c.ring-item.is) next.0 in
    subst (IsRing outline.uses.items outline.starts.items) (sym (is.is ring.run)) (c.requires.in_order.round ring.number ring.run is.within)

pub told_with-requires-clause-number : goal.told_with-requires-clause-number
told_with-requires-clause-number c =
    let outline = c.args.outline.now in
    let ring : NearRing = c.ring-item.result in
    let next = next_near outline.uses.items outline.rings.items c.args.p c.loop-ring.so_far.passed c.loop-ring.ring-index ring c.args.near.now c.loop-ring-test.true c.loop-ring.invariant.near in
    let is : IsNearRing outline.uses.items outline.rings.items c.args.p ring = subst (IsNearRing outline.uses.items outline.rings.items c.args.p) (sym c.ring-item.is) next.0 in
    is.within

pub told_with-requires-clause-blocks : goal.told_with-requires-clause-blocks
told_with-requires-clause-blocks c =
    let outline = c.args.outline.now in
    let ring : NearRing = c.ring-item.result in
    let next = next_near outline.uses.items outline.rings.items c.args.p c.loop-ring.so_far.passed c.loop-ring.ring-index ring c.args.near.now c.loop-ring-test.true c.loop-ring.invariant.near in
    let is : IsNearRing outline.uses.items outline.rings.items c.args.p ring = subst (IsNearRing outline.uses.items outline.rings.items c.args.p) (sym c.ring-item.is) next.0 in
    is.blocks

pub loop-ring-init : goal.loop-ring-init
loop-ring-init c =
    let outline = c.args.outline.now in
    subst (λ t. IsToldTo outline.uses.items outline.rings.items c.args.p t.passed t.tally c.args.near.now) (sym c.nothing_told-so_far.ensures)
    (told_none outline.uses.items outline.rings.items c.args.p outline.starts.items c.requires.in_order.in_row c.requires.in_order.round c.requires.in_order.ascending c.args.near.now c.requires.near)

pub loop-ring-preserved : goal.loop-ring-preserved
loop-ring-preserved c =
    let outline = c.args.outline.now in
    let uses = outline.uses.items in
    let runs = outline.rings.items in
    let ring : NearRing = c.ring-item.result in
    let next = next_near uses runs c.args.p c.loop-ring.so_far.passed c.loop-ring.ring-index ring c.args.near.now c.loop-ring-test.true c.loop-ring.invariant.near in
    let P : NearRing → Type 0 = λ r. IsNearRing uses runs c.args.p r × AreFar uses runs c.args.p c.loop-ring.so_far.passed r.number × AreNear uses runs c.args.p (r.number + 1) (drop (c.loop-ring.ring-index + 1) c.args.near.now) in
    let (is, far, are) = subst P (sym c.ring-item.is) next in
    told_with uses runs c.args.p outline.starts.items c.requires.in_order.in_row c.requires.in_order.round c.requires.in_order.ascending ring c.loop-ring.so_far c.in-Some.next _ _ c.in-Some.ensures is far are c.loop-ring.invariant

pub returns : goal.returns
returns c =
    let outline = c.args.outline.now in
    let told = c.loop-ring.invariant in
    subst (IsWhere outline.uses.items c.args.p) (sym c.settled.ensures)
    (told_all outline.uses.items outline.rings.items c.args.p outline.starts.items c.requires.in_order.in_row c.requires.in_order.round c.requires.in_order.ascending c.loop-ring.so_far.passed c.loop-ring.so_far.tally _ told
    (none_near outline.uses.items outline.rings.items c.args.p c.loop-ring.so_far.passed c.loop-ring.ring-index c.args.near.now (omega arith) told.near))
