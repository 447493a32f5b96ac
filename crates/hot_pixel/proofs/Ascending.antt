-- Lists in order without repeats: by sorting and removing repeats.
use mathlib.Core.List.{[], ◌∷◌}
use Rattle.std.proofs.Common.{◌≡◌, refl, sym, ◌∙◌, ap, subst, true≢false, zero, suc, ◌↔◌, List, get_or, Bool, true, false, IsTrue, Decides, Ordering, Less, Equal, Greater, is_lt, IsPermutation, IsSorted, arith}
use Rattle.std.specs.Prelude.{All, AllPairs, Contains}
use Rattle.std.specs.List.{dedup, IsDistinct}
use Rattle.std.specs.List.Sorted.{IsStrictlySortedBy}
use Rattle.std.specs.Ordering.{eq_by_cmp, is_eq, ordering_reverse}
use Rattle.std.specs.Cmp.{IsTotalOrder, IsEquivalence, both_ways}
use Rattle.std.proofs.lemmas.Bool.{false_from_ne_true}
use Rattle.std.proofs.lemmas.List.Elements.{All-from_recursion, recursion_from_All, All-weaker}
use Rattle.std.proofs.lemmas.List.Kept.{AllPairs-cons, Contains-dedup, Contains-from_dedup, IsStrictlySortedBy-dedup}
use Rattle.std.proofs.lemmas.List.Sorted.{Contains-permutation, IsPermutation-sym}
use Rattle.std.proofs.lemmas.Map.Keys.{IsDistinct-IsPermutation}

pub all_pairs_head : {X : Type 0} (R : X → X → Type 0) (x : X) (xs : List X) → AllPairs R (x ∷ xs) → All (R x) xs
all_pairs_head R x xs h k d within = h zero (suc k) d (omega arith) (omega arith)

pub all_pairs_tail : {X : Type 0} (R : X → X → Type 0) (x : X) (xs : List X) → AllPairs R (x ∷ xs) → AllPairs R xs
all_pairs_tail R x xs h i j d before within = h (suc i) (suc j) d (omega arith) (omega arith)

-- ---- a test that decides equality

module _ {X : Type 0} (same : X → X → Bool) (decides : (a b : X) → Decides (same a b) (a ≡ b)) where
  same_flips : (a b : X) → same a b ≡ same b a
  same_flips a b = both_ways (same a b) (same b a) (λ h. (decides b a).1 (sym ((decides a b).0 h))) (λ h. (decides a b).1 (sym ((decides b a).0 h)))

  pub same_equivalence : IsEquivalence same
  same_equivalence = record { refl = λ a. (decides a a).1 refl; symm = same_flips; congr = λ a b c h. ap (λ x. same x c) ((decides a b).0 h) }

  -- lists of which no two elements are equal, by a list of tests and by facts
  tests_from : (xs : List X) → AllPairs (λ a b. ¬ (a ≡ b)) xs → IsDistinct same xs
  unfolding IsDistinct
  tests_from [] h = tt
  tests_from (x ∷ xs) h = (
    recursion_from_All (λ y. same x y ≡ false) xs (λ k d within. false_from_ne_true (same x (get_or xs k d)) (λ t. all_pairs_head (λ a b. ¬ (a ≡ b)) x xs h k d within ((decides x (get_or xs k d)).0 t))),
    tests_from xs (all_pairs_tail (λ a b. ¬ (a ≡ b)) x xs h),
  )

  tests_to : (xs : List X) → IsDistinct same xs → AllPairs (λ a b. ¬ (a ≡ b)) xs
  unfolding IsDistinct
  tests_to [] h = λ i j d before within. absurd (omega arith)
  tests_to (x ∷ xs) h =
      AllPairs-cons (λ a b. ¬ (a ≡ b)) x xs
      (λ k d within e. true≢false (sym ((decides x (get_or xs k d)).1 e) ∙ All-from_recursion (λ y. same x y ≡ false) xs h.0 k d within)) (tests_to xs h.1)

  -- elements that differ stay so when they change places
  pub differ_permuted : (xs ys : List X) → IsPermutation xs ys → AllPairs (λ a b. ¬ (a ≡ b)) xs → AllPairs (λ a b. ¬ (a ≡ b)) ys
  differ_permuted xs ys moved h = tests_to ys (IsDistinct-IsPermutation same same_flips xs ys moved (tests_from xs h))

  -- ---- and an order that leaves no two elements apart

  module _ (cmp : X → X → Ordering) (total : IsTotalOrder cmp) (before : X → X → Bool) (lt_is : (a b : X) → is_lt (cmp a b) ≡ before a b)
      (joined : (a b : X) → before a b ≡ false → before b a ≡ false → a ≡ b) where
    ascending : (xs : List X) → IsStrictlySortedBy cmp xs → AllPairs (λ a b. IsTrue (before a b)) xs
    unfolding IsStrictlySortedBy
    ascending [] h = λ i j d first within. absurd (omega arith)
    ascending (x ∷ xs) h =
        AllPairs-cons (λ a b. IsTrue (before a b)) x xs
        (All-weaker (λ y. cmp x y ≡ Less) (λ y. IsTrue (before x y)) (λ y less. sym (lt_is x y) ∙ ap is_lt less) xs (All-from_recursion (λ y. cmp x y ≡ Less) xs h.0))
        (ascending xs h.1)

    own_reverse : (o : Ordering) → o ≡ ordering_reverse o → is_eq o ≡ true
    own_reverse Less e = absurd (true≢false (ap is_lt e))
    own_reverse Equal e = refl
    own_reverse Greater e = absurd (true≢false (sym (ap is_lt e)))

    equal_is : (o : Ordering) → is_eq o ≡ true → o ≡ Equal
    equal_is Less h = absurd (true≢false (sym h))
    equal_is Equal h = refl
    equal_is Greater h = absurd (true≢false (sym h))

    ties : (a b : X) → same a b ≡ eq_by_cmp cmp a b
    ties a b = both_ways (same a b) (eq_by_cmp cmp a b) (λ h. ap (λ x. is_eq (cmp a x)) (sym ((decides a b).0 h)) ∙ own_reverse (cmp a a) (total.antisymm a a)) back
      where
        back : is_eq (cmp a b) ≡ true → same a b ≡ true
        back h =
            let here = equal_is (cmp a b) h in
            let there : cmp b a ≡ Equal = total.antisymm b a ∙ ap ordering_reverse here in
            (decides a b).1 (joined a b (sym (lt_is a b) ∙ ap is_lt here) (sym (lt_is b a) ∙ ap is_lt there))

    -- what a sort and a removal of repeats leave
    module _ (xs moved ys : List X) (permuted : IsPermutation xs moved) (sorted : IsSorted cmp moved) (kept : ys ≡ dedup same moved) where
      pub set_ascending : AllPairs (λ a b. IsTrue (before a b)) ys
      set_ascending = subst (λ zs. AllPairs (λ a b. IsTrue (before a b)) zs) (sym kept) (ascending (dedup same moved) (IsStrictlySortedBy-dedup total ties moved sorted))

      pub set_contains : (x : X) → Contains ys x ↔ Contains xs x
      set_contains x = (
        λ h. Contains-permutation moved xs x (IsPermutation-sym xs moved permuted) (Contains-from_dedup same moved x (subst (λ zs. Contains zs x) kept h)),
        λ h. subst (λ zs. Contains zs x) (sym kept) (Contains-dedup same_equivalence (λ a b. (decides a b).0) moved x (Contains-permutation xs moved x permuted h)),
      )
