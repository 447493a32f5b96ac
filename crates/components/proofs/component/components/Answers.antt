use Rattle.std.proofs.Common.{◌≡◌, refl, Ok, sym, ◌∙◌, ap, subst, ℕ, ◌+◌, List, length, get_or, arith}
use Rattle.std.specs.declared.alloc.AllocError.{AllocError}
use Rattle.std.proofs.lemmas.List.{with_items_is}
use Rattle.std.proofs.lemmas.Iterator.{items_from_collect, YieldsList-from_range}
use Rattle.components.specs.Connected.{AreComponents}
use Rattle.components.specs.Lower.{AreConnected, AreKept}
use Rattle.components.proofs.Down.{AreJoined, joined-none, joined-more, joined-all}
use Rattle.components.proofs.component.components.Goals as goal

pub loop-link-init : goal.loop-link-init
loop-link-init c =
    joined-none c.args.count c.args.links.now c.in_ok-least.least.items
    (items_from_collect {E = AllocError} (Ok c.in_ok-least.least) c.in_ok-least.ensures.ran (YieldsList-from_range 0 c.args.count c.args.count refl (omega arith)))

pub loop-link-preserved : goal.loop-link-preserved
loop-link-preserved c =
    let was : c.deref_mut.result.now ≡ c.loop-link.least.items = c.deref_mut.ensures.value in
    let size : length c.join.new.lower ≡ length c.loop-link.least.items = c.join.auto.lower ∙ ap (λ (xs : List ℕ). length xs) was in
    let long : length c.join.new.lower ≡ c.loop-link.least.len = size ∙ omega (arith, c.loop-link.least.ok.0) in
    subst (λ (ns : List ℕ). AreJoined c.args.count c.args.links.now (c.loop-link.link-index + 1) ns) (sym (with_items_is c.loop-link.least c.join.new.lower long))
    (joined-more c.args.count c.args.links.now c.loop-link.link-index (record { from = 0; to = 0 }) c.loop-link.least.items c.join.new.lower c.loop-link-test.true size c.join.ensures.low
    (λ number kept. (let (earlier, same) = c.join.ensures.kept number kept in (subst (λ (ns : List ℕ). AreKept ns number) was earlier, same)))
    (λ tied all. c.join.ensures.connected c.args.links.now tied (subst (λ (ns : List ℕ). AreConnected c.args.links.now ns) (sym was) all))
    c.loop-link.invariant)

pub returns : goal.returns
returns c =
    let was : c.deref_mut-2.result.now ≡ c.loop-link.least.items = c.deref_mut-2.ensures.value in
    let size : length c.settle.new.lower ≡ length c.loop-link.least.items = c.settle.auto.lower ∙ ap (λ (xs : List ℕ). length xs) was in
    let long : length c.settle.new.lower ≡ c.loop-link.least.len = size ∙ omega (arith, c.loop-link.least.ok.0) in
    subst (λ (ns : List ℕ). AreComponents c.args.count c.args.links.now ns) (sym (with_items_is c.loop-link.least c.settle.new.lower long))
    (joined-all c.args.count c.args.links.now c.loop-link.link-index c.loop-link.least.items c.settle.new.lower c.requires.within c.loop-link-test.false c.loop-link.invariant size c.settle.ensures.low
    (subst (λ (ns : List ℕ). AreKept ns (λ x. get_or c.settle.new.lower x 0)) was c.settle.ensures.kept)
    (c.settle.ensures.connected c.args.links.now (subst (λ (ns : List ℕ). AreConnected c.args.links.now ns) (sym was) c.loop-link.invariant.connected)))
