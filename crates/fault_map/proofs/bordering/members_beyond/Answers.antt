use Rattle.std.proofs.Common.{◌∙◌, ◌++◌, ◌∷◌, [], sym, ap, subst, ℕ, List, take, get_or}
use Rattle.std.proofs.lemmas.List.{take_more, take_all}
use Rattle.fault_map.specs.Beyond.{AreHeldBeyond}
use Rattle.fault_map.proofs.Borders.{beyond_none, beyond_more}
use Rattle.fault_map.proofs.bordering.members_beyond.Goals as goal

pub loop-side-init : goal.loop-side-init
loop-side-init c = λ o is. subst (λ ms. AreHeldBeyond o [] ms) (sym c.new-members.ensures.items) (beyond_none o)

pub loop-side-preserved : goal.loop-side-preserved
loop-side-preserved c = λ o is.
    let sides : List ℕ = c.args.sides.now in
    let k = c.loop-side.side-index in
    let held : List ℕ = c.loop-side.members.items in
    subst (λ xs. AreHeldBeyond o xs c.extend_from_slice.new.self.items) (sym (take_more sides k 0 c.loop-side-test.true))
    (subst (λ ms. AreHeldBeyond o (take k sides ++ get_or sides k 0 ∷ []) ms) (sym (c.in_ok-extend_from_slice.ensures.items ∙ ap (λ ms. held ++ ms) (c.label_beyond.ensures o is)))
    (beyond_more o (take k sides) (get_or sides k 0) held (c.loop-side.invariant o is)))

pub returns : goal.returns
returns c = λ o is. subst (λ xs. AreHeldBeyond o xs c.loop-side.members.items) (take_all c.loop-side.side-index c.args.sides.now c.loop-side-test.false) (c.loop-side.invariant o is)
