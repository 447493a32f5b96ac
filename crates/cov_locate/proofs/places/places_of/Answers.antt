use Rattle.std.proofs.Common.{◌≡◌, ◌<◌, ◌++◌, ◌∙◌, ℕ, List, length, All, Contains, sym, ap₂, subst, arith, inl}
use Rattle.std.proofs.lemmas.Bool.{eqb-true, eqb-false}
use Rattle.std.proofs.lemmas.List.{take-append-drop}
use Rattle.std.proofs.lemmas.List.Elements.{All-drop, All-take}
use Rattle.cov_locate.proofs.InPlaces.{told_group, told_all}
use Rattle.cov_locate.proofs.places.places_of.Goals as goal

pub loop-rest-init : goal.loop-rest-init
loop-rest-init c =
    let shown : c.as_slice-rest.result.now ≡ c.in_ok-order.order.items = c.as_slice-rest.ensures.value in (
      omega (arith, c.in_ok-places.places.ok.0, c.in_ok-places.ensures.len),
      subst (All (λ n. n < length c.args.points.now)) (sym shown) c.in_ok-order.ensures.within,
      λ n within. inl (subst (λ (xs : List ℕ). Contains xs n) (sym shown) (c.in_ok-order.ensures.each n within)),
    )

pub place_group-requires-clause-some : goal.place_group-requires-clause-some
place_group-requires-clause-some c =
    let apart = eqb-false (length c.loop-rest.rest.now) 0 (sym c.loop-rest-test.ensures) in
    omega (arith, apart, c.split_at.ensures.front_len, c.min.ensures, c.group_width-width.ensures)

pub place_group-requires-clause-within : goal.place_group-requires-clause-within
place_group-requires-clause-within c =
    subst (All (λ n. n < length c.args.points.now)) (sym c.split_at.ensures.front) (All-take (λ n. n < length c.args.points.now) c.min.result c.loop-rest.rest.now c.loop-rest.invariant.1)

pub loop-rest-preserved : goal.loop-rest-preserved
loop-rest-preserved c =
    let points = c.args.points.now in
    let rest = c.loop-rest.rest.now in
    let group = c.split_at.result.0.now in
    let others = c.split_at.result.1.now in
    let n = c.min.result in
    let split : rest ≡ group ++ others = sym (take-append-drop n rest) ∙ ap₂ (λ (a b : List ℕ). a ++ b) (sym c.split_at.ensures.front) (sym c.split_at.ensures.back) in (
      c.in_ok-place_group.ensures.length,
      subst (All (λ m. m < length points)) (sym c.split_at.ensures.back) (All-drop (λ m. m < length points) n rest c.loop-rest.invariant.1),
      told_group c.args.index.now.outline.uses.items points rest group others c.loop-rest.places.items c.place_group.new.places.items split c.in_ok-place_group.ensures.group c.in_ok-place_group.ensures.others c.loop-rest.invariant.2,
    )

pub returns : goal.returns
returns c =
    told_all c.args.index.now.outline.uses.items c.args.points.now c.loop-rest.rest.now c.loop-rest.places.items c.loop-rest.invariant.0 (eqb-true (length c.loop-rest.rest.now) 0 (sym c.loop-rest-test.ensures)) c.loop-rest.invariant.2
