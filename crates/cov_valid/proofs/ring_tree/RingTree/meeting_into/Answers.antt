use Rattle.std.proofs.Common.{◌≡◌, sym, ◌∙◌, subst, ℕ, ◌<◌, List, All, length, get_or, map}
use Rattle.box_tree.specs.Places.{places}
use Rattle.box_tree.specs.Rect.{is_touching}
use Rattle.box_tree.specs.declared.rect.Rect.{Rect}
use Rattle.cov_valid.proofs.RingOrder.{found_inside, met_sorted}
use Rattle.cov_valid.proofs.ring_tree.RingTree.meeting_into.Goals as goal

pub numbers_into-requires : goal.numbers_into-requires
numbers_into-requires c =
    let t = c.self.inside in
    let found : c.deref-2.result.now ≡ places (is_touching c.args.own) 0 t.tree = c.deref-2.ensures.value ∙ c.in_ok-meeting_into.ensures in
    subst (λ (ns : List ℕ). All (λ (k : ℕ). k < length ns) c.deref-2.result.now) (sym c.deref.ensures.value)
    (subst (λ (ks : List ℕ). All (λ (k : ℕ). k < length t.order.items) ks) (sym found) (found_inside t.boxes.items t.order.items t.tree c.self.invariant (is_touching c.args.own)))

pub returns : goal.returns
returns c =
    let t = c.self.inside in
    let test = is_touching c.args.own in
    let found : c.deref-2.result.now ≡ places test 0 t.tree = c.deref-2.ensures.value ∙ c.in_ok-meeting_into.ensures in
    let read : c.numbers_into.new.found.items ≡ map (λ (k : ℕ). get_or t.order.items k 0) (places test 0 t.tree) =
    c.in_ok-numbers_into.ensures ∙ (λ i. map (λ (k : ℕ). get_or (c.deref.ensures.value i) k 0) (found i)) in
    subst (λ (bs : List Rect). c.sort_unstable.new.self.items ≡ places test 0 bs) c.self.view_is
    (met_sorted t.boxes.items t.order.items t.tree c.self.invariant test c.numbers_into.new.found.items c.sort_unstable.new.self.items read c.sort_unstable.ensures.permutation c.sort_unstable.ensures.sorted)
