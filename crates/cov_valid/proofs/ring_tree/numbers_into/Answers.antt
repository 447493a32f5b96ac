use Rattle.std.proofs.Common.{ℕ, ◌<◌, length, get_or}
use Rattle.std.proofs.lemmas.List.{get_or_default}
use Rattle.cov_valid.proofs.RingOrder.{read_more, read_all}
use Rattle.cov_valid.proofs.ring_tree.numbers_into.Goals as goal

pub loop-k-preserved : goal.loop-k-preserved
loop-k-preserved c =
    let order = c.args.order.now in
    let i = c.loop-k.k-index in
    let k : ℕ = get_or c.args.places.now i 0 in
    let within : k < length order = c.requires i 0 c.loop-k-test.true in
    read_more order c.args.places.now i (get_or order k 0) c.loop-k.found.items c.push.new.self.items c.loop-k-test.true within (get_or_default order k 0 (get_or order k 0) within) c.in_ok-push.ensures.items
    c.loop-k.invariant

pub returns : goal.returns
returns c = read_all c.args.order.now c.args.places.now c.loop-k.k-index c.loop-k.found.items c.loop-k-test.false c.loop-k.invariant 0
