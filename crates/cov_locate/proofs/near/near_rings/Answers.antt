use Rattle.std.proofs.Common.{◌≡◌, ◌<◌, ◌∙◌, ℕ, All, length, get_or, sym, subst, arith}
use Rattle.std.specs.List.Sorted.{IsNonDecreasing}
use Rattle.std.proofs.lemmas.List.{get_or_default}
use Rattle.cov_locate.proofs.NearRings.{AreOthersFar, listed_none, listed_more, listed_all}
use Rattle.cov_locate.proofs.near.near_rings.Goals as goal

pub loop-number-init : goal.loop-number-init
loop-number-init c = listed_none c.args.index.now.outline.uses.items c.args.index.now.outline.rings.items c.args.round c.deref-number-items.result.now c.in_ok-near.near.items c.in_ok-near.ensures.items

pub near_ring-requires-clause-number : goal.near_ring-requires-clause-number
near_ring-requires-clause-number c =
    subst (All (λ n. n < length c.args.index.now.outline.rings.items)) (sym c.deref-number-items.ensures.value) c.in_ok-numbers.ensures.within c.loop-number.number-index 0 c.loop-number-test.true

pub loop-number-preserved : goal.loop-number-preserved
loop-number-preserved c =
    let outline = c.args.index.now.outline in
    let numbers = c.deref-number-items.result.now in
    let same : numbers ≡ c.in_ok-numbers.numbers.items = c.deref-number-items.ensures.value in
    let i = c.loop-number.number-index in
    let within : i < length numbers = c.loop-number-test.true in
    let ring = c.in_ok-ring.ring in
    let number : ℕ = get_or numbers i 0 in
    let is : ring.number ≡ number = c.in_ok-ring.ensures.number in
    let below : number < length outline.rings.items = subst (All (λ n. n < length outline.rings.items)) (sym same) c.in_ok-numbers.ensures.within i 0 within in
    listed_more outline.uses.items outline.rings.items c.args.round numbers (subst (AreOthersFar outline.uses.items outline.rings.items c.args.round) (sym same) c.in_ok-numbers.ensures.others)
    i c.loop-number.near.items c.push.new.self.items ring within (subst IsNonDecreasing (sym same) c.in_ok-numbers.ensures.ascending)
    (is ∙ get_or_default numbers i 0 ring.number within) c.in_ok-ring.ensures.near c.in_ok-push.ensures.items (omega (arith, below, is)) c.loop-number.invariant

pub returns : goal.returns
returns c = λ p hp inside.
    let outline = c.args.index.now.outline in
    let numbers = c.deref-number-items.result.now in
    listed_all outline.uses.items outline.rings.items c.args.round numbers (subst (AreOthersFar outline.uses.items outline.rings.items c.args.round) (sym c.deref-number-items.ensures.value) c.in_ok-numbers.ensures.others)
    c.loop-number.number-index c.loop-number.near.items c.loop-number-test.false c.loop-number.invariant p hp inside
