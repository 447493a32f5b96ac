use Rattle.std.proofs.Common.{◌≡◌, ℕ, ◌<◌, ◌≤◌, ◌↔◌, IsTrue, Contains, length, get_or, subst, arith}
use Rattle.std.proofs.lemmas.List.{get_or_default}
use Rattle.cov_valid.proofs.Presence.{present_is, present_more, present_all}
use Rattle.cov_valid.proofs.present.present_into.Goals as goal

pub loop-n-preserved : goal.loop-n-preserved
loop-n-preserved c =
    let numbers = c.args.numbers.now in
    let list = c.args.list.now in
    let i = c.loop-n.n-index in
    let n : ℕ = get_or numbers i 0 in
    let at = c.place_from-at.ensures in
    let inside : i < length numbers = c.loop-n-test.true in
    let told : IsTrue c.is_at.result ↔ Contains list n = present_is list c.place_from-at.result n c.is_at.result c.requires.list_ascends at.below at.found c.is_at.ensures in (
      at.within,
      (λ k d e j h later within.
          let less : get_or list k d < n = at.below k d h in
          let most : get_or numbers i e ≤ get_or numbers j e = c.requires.numbers_ascend i j e (omega (arith, later)) within in
          let same : get_or numbers i e ≡ n = get_or_default numbers i e 0 inside in
          omega (arith, less, most, same)),
      present_more numbers list i c.loop-n.present.items c.push.new.self.items c.is_at.result c.in_ok-push.ensures.items
          (λ d. subst (λ (m : ℕ). IsTrue c.is_at.result ↔ Contains list m) (get_or_default numbers i 0 d inside) told)
          c.loop-n.invariant.2,
    )

pub returns : goal.returns
returns c =
    let end : c.loop-n.n-index ≡ length c.args.numbers.now = omega arith in
    present_all c.args.numbers.now c.args.list.now c.loop-n.n-index c.loop-n.present.items end c.loop-n.invariant.2
