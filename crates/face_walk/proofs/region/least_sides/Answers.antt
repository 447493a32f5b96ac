use Rattle.std.proofs.Common.{◌≡◌, refl, ap, subst, ◌<◌, ℕ, List, length, slice_index, arith}
use Rattle.face_walk.proofs.Reading.{least_none, least_more, least_all}
use Rattle.face_walk.proofs.region.least_sides.Goals as goal

pub loop-cycle-init : goal.loop-cycle-init
loop-cycle-init c = least_none c.args.cycles.now.of.items c.args.cycles.now.list.items c.args.connected.now c.new-least.result.items c.new-least.ensures.items

pub loop-cycle-preserved : goal.loop-cycle-preserved
loop-cycle-preserved c =
    let of = c.args.cycles.now.of.items in
    let list = c.args.cycles.now.list.items in
    let connected = c.args.connected.now in
    let n = c.loop-cycle.cycle-index in
    let was : c.deref-cycle-items.result.now ≡ of = c.deref-cycle-items.ensures.value in
    let below : n < length of = subst (λ (xs : List ℕ). n < length xs) was c.loop-cycle-test.true in
    let place : slice_index connected (slice_index c.deref-cycle-items.result.now n) ≡ slice_index connected (slice_index of n) = ap (λ (xs : List ℕ). slice_index connected (slice_index xs n)) was in
    least_more of list connected n (slice_index connected (slice_index c.deref-cycle-items.result.now n)) c.index.result.now.least c.index.result.now c.loop-cycle.least.items c.push.new.self.items
    (c.requires.some n below) place c.index.ensures refl c.in_ok-push.ensures.items c.loop-cycle.invariant

pub returns : goal.returns
returns c =
    let was = c.deref-cycle-items.ensures.value in
    let size = ap (λ (xs : List ℕ). length xs) was in
    let stop = c.loop-cycle-test.false in
    let far = c.loop-cycle.auto.cycle-index-end in
    least_all c.args.cycles.now.of.items c.args.cycles.now.list.items c.args.connected.now c.loop-cycle.cycle-index c.loop-cycle.least.items (omega (arith, stop, far, size)) c.loop-cycle.invariant
