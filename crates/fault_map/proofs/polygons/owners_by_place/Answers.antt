use Rattle.std.proofs.Common.{◌≡◌, ◌∙◌, ◌<◌, ◌++◌, ◌∷◌, [], sym, ap, subst, ℕ, List, length, length-set, length-take-le, take, get_or, set, replicate, Option, Some, None, arith, rules}
use Rattle.std.specs.Prelude.{IfSome}
use Rattle.std.proofs.lemmas.List.{get_or-replicate, length-replicate, take_more, take_all}
use Rattle.cov_build.specs.Owners.{owner_in}
use Rattle.fault_map.specs.Polygon.{AreOwnersByPlace}
use Rattle.fault_map.proofs.ByPlace.{by_place_none, by_place_more, below_more, earlier_apart}
use Rattle.fault_map.proofs.polygons.owners_by_place.Goals as goal

none_owned : (c : goal.In_ok-owners) → c.in_ok-owners.owners.items ≡ replicate c.args.count None
none_owned c = c.in_ok-owners.ensures.items_if_clones_equal (λ y is. search rules)

pub loop-place-init : goal.loop-place-init
loop-place-init c =
    let none = none_owned c in
    record {
      long = omega (arith, c.in_ok-owners.ensures.len, c.in_ok-owners.owners.ok.0);
      below = λ k d within. subst (λ (os : List (Option ℕ)). IfSome (get_or os k d) (λ i. i < length c.args.regions.now)) (sym none)
          (subst (λ (o : Option ℕ). IfSome o (λ i. i < length c.args.regions.now)) (sym (get_or-replicate c.args.count k None d (let long = ap length none ∙ length-replicate c.args.count None in omega (arith, within, long)))) tt);
      owners = subst (λ (os : List (Option ℕ)). AreOwnersByPlace [] (owner_in os)) (sym none) (by_place_none c.args.count);
    }

pub loop-place-preserved : goal.loop-place-preserved
loop-place-preserved c =
    let regions : List ℕ = c.args.regions.now in
    let owners : List (Option ℕ) = c.loop-place.owners.items in
    let n = c.loop-place.place in
    let r = get_or regions n 0 in
    let inv = c.loop-place.invariant in
    let long : length (take n regions) ≡ n = length-take-le n regions (omega (arith, c.loop-place-test.true)) in
    let inside : r < length owners = (let low = c.requires.within n 0 c.loop-place-test.true in omega (arith, low, inv.long)) in
    record {
      long = length-set owners r (Some n) ∙ inv.long;
      below = below_more (length regions) n r owners c.loop-place-test.true inv.below;
      owners = subst (λ rs. AreOwnersByPlace rs (owner_in (set owners r (Some n)))) (sym (take_more regions n 0 c.loop-place-test.true))
          (subst (λ k. AreOwnersByPlace (take n regions ++ r ∷ []) (owner_in (set owners r (Some k)))) long (by_place_more (take n regions) r owners inside (earlier_apart regions n c.requires.ascending c.loop-place-test.true) inv.owners));
    }

pub returns-clause-owners : goal.returns-clause-owners
returns-clause-owners c = subst (λ rs. AreOwnersByPlace rs (owner_in c.loop-place.owners.items)) (take_all c.loop-place.place c.args.regions.now c.loop-place-test.false) c.loop-place.invariant.owners
