-- The elements that a list has an odd number of times: a sum over them is that over the whole list, up to an even number.
use mathlib.Core.List.{[], ◌∷◌}
use Rattle.std.proofs.Common.{◌≡◌, ◌⊎◌, inl, inr, sym, ◌∙◌, ap, ℕ, zero, suc, ◌+◌, ◌-◌, ◌%◌, ◌↔◌, Bool, true, false, cond, List, length, get_or, Decides, arith, refl}
use Rattle.std.specs.Prelude.{Contains, AllPairs, sum_by, count_by, remove}
use Rattle.std.proofs.lemmas.Bool.{cases_lt, cases_eq, cases_order, false≢true}
use Rattle.std.proofs.lemmas.List.{get_or_default}
use Rattle.std.proofs.lemmas.List.Edits.{get_or-remove_below, get_or-remove_above, length-remove}
use Rattle.std.proofs.lemmas.List.Quantifiers.{all_pairs_remove}
use Rattle.std.proofs.lemmas.List.Sums.{sum_by-cons, sum_by-remove}

module _ {X : Type 0} (same : X → X → Bool) (decides : (a b : X) → Decides (same a b) (a ≡ b)) where
  -- how many times e is in the list
  abbrev pub times : X → List X → ℕ
  times e xs = count_by (λ x. same x e) xs

  -- no element is in the list twice
  abbrev AreDistinct : List X → Type 0
  AreDistinct xs = AllPairs (λ a b. ¬ (a ≡ b)) xs

  -- the elements of odd are those that xs has an odd number of times
  abbrev pub AreOddOf : List X → List X → Type 0
  AreOddOf xs odd = (e : X) → Contains odd e ↔ (times e xs % 2 ≡ 1)

  times-cons : (e x : X) (xs : List X) → times e (x ∷ xs) ≡ cond (same x e) 1 0 + times e xs
  times-cons e x xs = sum_by-cons (λ y. cond (same y e) 1 0) x xs

  -- x itself is there once more, and no other element
  times-same : (x : X) (xs : List X) → times x (x ∷ xs) ≡ 1 + times x xs
  times-same x xs = times-cons x x xs ∙ ap (λ b. cond b 1 0 + times x xs) ((decides x x).1 refl)

  not_same : (e x : X) → ¬ (x ≡ e) → same x e ≡ false
  not_same e x n = elim (same x e) as (λ b. same x e ≡ b → same x e ≡ false) [ true ↦ λ h. absurd (n ((decides x e).0 h)) | false ↦ λ h. h ] refl

  times-other : (e x : X) (xs : List X) → ¬ (x ≡ e) → times e (x ∷ xs) ≡ times e xs
  times-other e x xs n = times-cons e x xs ∙ ap (λ b. cond b 1 0 + times e xs) (not_same e x n) ∙ omega arith

  same_or_not : (x e : X) → (x ≡ e) ⊎ ¬ (x ≡ e)
  same_or_not x e = elim (same x e) as (λ b. same x e ≡ b → (x ≡ e) ⊎ ¬ (x ≡ e)) [ true ↦ λ h. inl ((decides x e).0 h) | false ↦ λ h. inr (λ k. false≢true (sym h ∙ (decides x e).1 k)) ] refl

  -- ---- one element taken out

  module _ (odd : List X) (distinct : AreDistinct odd) (x : X) (has : Contains odd x) where
    abbrev at : ℕ
    at = has.0

    abbrev rest : List X
    rest = remove odd at

    x_at : (d : X) → get_or odd at d ≡ x
    x_at d = get_or_default odd at d x has.1 ∙ has.2

    rest-length : length rest + 1 ≡ length odd
    rest-length = length-remove odd at has.1

    -- an element of the rest is one of the whole, and not x
    rest_within : (e : X) → Contains rest e → Contains odd e × ¬ (x ≡ e)
    rest_within e h =
        let short = rest-length in
        let k = h.0 in
        let inside = h.1 in
        elim (cases_lt k at) [
          | inl below ↦ (
              let is : get_or odd k e ≡ e = sym (get_or-remove_below odd at e k below has.1) ∙ h.2 in
              ((k, omega arith, is), λ same. distinct k at e below has.1 (is ∙ sym same ∙ sym (x_at e))))
          | inr above ↦ (
              let is : get_or odd (k + 1) e ≡ e = sym (get_or-remove_above odd at e k above has.1) ∙ h.2 in
              ((k + 1, omega arith, is), λ same. distinct at (k + 1) e (omega arith) (omega arith) (x_at e ∙ same ∙ sym is)))
        ]

    -- and each such element is one of the rest
    rest_has : (e : X) → Contains odd e → ¬ (x ≡ e) → Contains rest e
    rest_has e h other =
        let short = rest-length in
        let k = h.0 in
        let inside = h.1 in
        elim (cases_order k at) [
          | inl here ↦ absurd (other (sym (x_at e) ∙ (λ i. get_or odd (sym here i) e) ∙ h.2))
          | inr apart ↦ elim apart [
            | inl below ↦ (k, omega arith, get_or-remove_below odd at e k below has.1 ∙ h.2)
            | inr above ↦ (
                let next : (k - 1) + 1 ≡ k = omega arith in
                (k - 1, omega arith, get_or-remove_above odd at e (k - 1) (omega arith) has.1 ∙ (λ i. get_or odd (next i) e) ∙ h.2))
          ]
        ]

    rest_distinct : AreDistinct rest
    rest_distinct = all_pairs_remove (λ a b. ¬ (a ≡ b)) odd at has.1 distinct

    rest_sum : (f : X → ℕ) → sum_by f rest + f x ≡ sum_by f odd
    rest_sum f = ap (λ y. sum_by f rest + f y) (sym (x_at x)) ∙ sum_by-remove f odd at x has.1

  -- ---- one element put in front

  front_distinct : (x : X) (odd : List X) → AreDistinct odd → ¬ Contains odd x → AreDistinct (x ∷ odd)
  front_distinct x odd distinct new i zero d before within = absurd (omega arith)
  front_distinct x odd distinct new zero (suc j) d before within = λ same. new (j, omega arith, get_or_default odd j x d (omega arith) ∙ sym same)
  front_distinct x odd distinct new (suc i) (suc j) d before within = distinct i j d (omega arith) (omega arith)

  front_cases : (x e : X) (odd : List X) → Contains (x ∷ odd) e → (x ≡ e) ⊎ Contains odd e
  front_cases x e odd (zero, within, is) = inl is
  front_cases x e odd (suc k, within, is) = inr (k, omega arith, is)

  front_has : (x e : X) (odd : List X) → Contains odd e → Contains (x ∷ odd) e
  front_has x e odd (k, within, is) = (suc k, omega arith, is)

  -- ---- the parity

  -- an odd number and the next one
  odd_next : (n : ℕ) → (1 + n) % 2 ≡ 1 → n % 2 ≡ 1 → ⊥
  odd_next n h k = absurd (omega arith)

  odd_or_next : (n : ℕ) → (n % 2 ≡ 1) ⊎ ((1 + n) % 2 ≡ 1)
  odd_or_next n = elim (cases_eq (n % 2) 1) [ inl e ↦ inl e | inr other ↦ inr (omega arith) ]

  -- where x is in xs an even number of times, it is one of the odd ones of x ∷ xs, which without it are those of xs
  odd_without : (x : X) (xs odd : List X) (distinct : AreDistinct odd) (all : AreOddOf (x ∷ xs) odd) (has : Contains odd x) → AreOddOf xs (rest odd distinct x has)
  odd_without x xs odd distinct all has e = (there, back)
    where
      there : Contains (rest odd distinct x has) e → times e xs % 2 ≡ 1
      there h =
          let w = rest_within odd distinct x has e h in
          ap (λ n. n % 2) (sym (times-other e x xs w.1)) ∙ (all e).0 w.0

      back : times e xs % 2 ≡ 1 → Contains (rest odd distinct x has) e
      back h =
          elim (same_or_not x e) [
            | inl same_one ↦ absurd (
                let now = (all x).0 has in
                let more = times-same x xs in
                let here = ap (λ y. times y xs % 2) same_one in
                odd_next (times x xs) (ap (λ n. n % 2) (sym more) ∙ now) (here ∙ h))
            | inr other ↦ rest_has odd distinct x has e ((all e).1 (ap (λ n. n % 2) (times-other e x xs other) ∙ h)) other
          ]

  -- where it is in xs an odd number of times, it is one of the odd ones of xs and none of x ∷ xs
  odd_with : (x : X) (xs odd : List X) → AreOddOf (x ∷ xs) odd → times x xs % 2 ≡ 1 → AreOddOf xs (x ∷ odd)
  odd_with x xs odd all now e = (there, back)
    where
      there : Contains (x ∷ odd) e → times e xs % 2 ≡ 1
      there h =
          elim (same_or_not x e) [
            | inl same_one ↦ ap (λ y. times y xs % 2) (sym same_one) ∙ now
            | inr other ↦ elim (front_cases x e odd h) [
              | inl same_one ↦ absurd (other same_one)
              | inr later ↦ ap (λ n. n % 2) (sym (times-other e x xs other)) ∙ (all e).0 later
            ]
          ]

      back : times e xs % 2 ≡ 1 → Contains (x ∷ odd) e
      back h =
          elim (same_or_not x e) [
            | inl same_one ↦ (0, omega arith, same_one)
            | inr other ↦ front_has x e odd ((all e).1 (ap (λ n. n % 2) (times-other e x xs other) ∙ h))
          ]

  -- the odd ones of nothing are none
  none_odd : (odd : List X) → AreOddOf [] odd → odd ≡ []
  none_odd [] all = refl
  none_odd (y ∷ odd) all = absurd (let h : 0 % 2 ≡ 1 = (all y).0 (0, omega arith, refl) in omega arith)

  step_without : (a b c x : ℕ) → a + x ≡ b → c % 2 ≡ a % 2 → (x + c) % 2 ≡ b % 2
  step_without a b c x e f = omega arith

  step_with : (a b c x : ℕ) → a ≡ x + b → c % 2 ≡ a % 2 → (x + c) % 2 ≡ b % 2
  step_with a b c x e f = omega arith

  pub odd_sum : (f : X → ℕ) (xs odd : List X) → AreDistinct odd → AreOddOf xs odd → sum_by f xs % 2 ≡ sum_by f odd % 2
  odd_sum f [] odd distinct all = ap (λ ys. sum_by f ys % 2) (sym (none_odd odd all))
  odd_sum f (x ∷ xs) odd distinct all =
      let sum = ap (λ n. n % 2) (sum_by-cons f x xs) in
      elim (odd_or_next (times x xs)) [
        | inl now ↦ (
            let new : ¬ Contains odd x = λ has. odd_next (times x xs) (ap (λ n. n % 2) (sym (times-same x xs)) ∙ (all x).0 has) now in
            let rec = odd_sum f xs (x ∷ odd) (front_distinct x odd distinct new) (odd_with x xs odd all now) in
            sum ∙ step_with (sum_by f (x ∷ odd)) (sum_by f odd) (sum_by f xs) (f x) (sum_by-cons f x odd) rec)
        | inr next ↦ (
            let has = (all x).1 (ap (λ n. n % 2) (times-same x xs) ∙ next) in
            let rec = odd_sum f xs (rest odd distinct x has) (rest_distinct odd distinct x has) (odd_without x xs odd distinct all has) in
            sum ∙ step_without (sum_by f (rest odd distinct x has)) (sum_by f odd) (sum_by f xs) (f x) (rest_sum odd distinct x has f) rec)
      ]
