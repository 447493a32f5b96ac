-- The pair of a label that is cut where its members of the second coverage begin.
use mathlib.Core.List.{[], ◌∷◌}
use Rattle.std.proofs.Common.{◌≡◌, refl, sym, ◌∙◌, ap, ℕ, zero, suc, ◌+◌, ◌<◌, ◌≤◌, Bool, true, false, cond, ltb, nat_lt, nat_le, List, filter, length, get_or, take, drop, inl, inr, arith}
use Rattle.std.specs.Prelude.{AllPairs, Option, Some, slice_get}
use Rattle.std.specs.List.Sorted.{IsNonDecreasingBy, IsPartitionPoint}
use Rattle.std.proofs.lemmas.Bool.{cases_eq, ltb-false}
use Rattle.std.proofs.lemmas.Bool.Decides.{nat_tests}
use Rattle.std.proofs.lemmas.List.{get_or-drop, length-drop}
use Rattle.std.proofs.lemmas.Option.{slice_get_within, get_or_from_slice_get}
use Rattle.overlaid_laws.specs.Pairs.{pair_with, least_of_first, least_of_second, pair_of}

-- ---- a list that passes a test up to a place, or from there on

module _ {X : Type 0} (p : X → Bool) where
  none_pass : (xs : List X) → ((i : ℕ) (d : X) → i < length xs → p (get_or xs i d) ≡ false) → filter p xs ≡ []
  none_pass [] fails = refl
  none_pass (x ∷ xs) fails =
      ap (λ (b : Bool). cond b (x ∷ filter p xs) (filter p xs)) (fails 0 x (omega arith)) ∙ none_pass xs (λ i d within. fails (suc i) d (omega arith))

  all_pass : (xs : List X) → ((i : ℕ) (d : X) → i < length xs → p (get_or xs i d) ≡ true) → filter p xs ≡ xs
  all_pass [] passes = refl
  all_pass (x ∷ xs) passes =
      ap (λ (b : Bool). cond b (x ∷ filter p xs) (filter p xs)) (passes 0 x (omega arith)) ∙ ap (λ ys. x ∷ ys) (all_pass xs (λ i d within. passes (suc i) d (omega arith)))

  front_passes : (xs : List X) (k : ℕ) → ((i : ℕ) (d : X) → i < k → i < length xs → p (get_or xs i d) ≡ true) → ((i : ℕ) (d : X) → k ≤ i → i < length xs → p (get_or xs i d) ≡ false)
      → filter p xs ≡ take k xs
  front_passes [] zero passes fails = refl
  front_passes [] (suc k) passes fails = refl
  front_passes (x ∷ xs) zero passes fails = none_pass (x ∷ xs) (λ i d within. fails i d (omega arith) within)
  front_passes (x ∷ xs) (suc k) passes fails =
      ap (λ (b : Bool). cond b (x ∷ filter p xs) (filter p xs)) (passes 0 x (omega arith) (omega arith))
      ∙ ap (λ ys. x ∷ ys) (front_passes xs k (λ i d before within. passes (suc i) d (omega arith) (omega arith)) (λ i d past within. fails (suc i) d (omega arith) (omega arith)))

  rest_passes : (xs : List X) (k : ℕ) → ((i : ℕ) (d : X) → i < k → i < length xs → p (get_or xs i d) ≡ false) → ((i : ℕ) (d : X) → k ≤ i → i < length xs → p (get_or xs i d) ≡ true)
      → filter p xs ≡ drop k xs
  rest_passes [] zero fails passes = refl
  rest_passes [] (suc k) fails passes = refl
  rest_passes (x ∷ xs) zero fails passes = all_pass (x ∷ xs) (λ i d within. passes i d (omega arith) within)
  rest_passes (x ∷ xs) (suc k) fails passes =
      ap (λ (b : Bool). cond b (x ∷ filter p xs) (filter p xs)) (fails 0 x (omega arith) (omega arith))
      ∙ rest_passes xs k (λ i d before within. fails (suc i) d (omega arith) (omega arith)) (λ i d past within. passes (suc i) d (omega arith) (omega arith))

-- ---- labels

-- the members of a label rise
pub rises : (label : List ℕ) → AllPairs (λ i j. i < j) label → IsNonDecreasingBy (λ m. m) label
rises label up i j d le within = elim (cases_eq i j) [
  | inl same ↦ (let one = ap (λ k. get_or label k d) same in omega (arith, one))
  | inr other ↦ (let less = up i j d (omega arith) within in omega (arith, less))
]

not_least : (m n : ℕ) → ltb m n ≡ true → nat_le n m ≡ false
not_least m n less = grind (arith, nat_tests)

at_least : (m n : ℕ) → ltb m n ≡ false → nat_le n m ≡ true
at_least m n past = grind (arith, nat_tests)

-- a label, and the place in it where the members of the second coverage begin
module _ (n : ℕ) (label : List ℕ) (k : ℕ) (point : IsPartitionPoint (λ m. ltb m n ≡ true) (λ m. ltb m n ≡ false) label k) where
  first_is : least_of_first n label ≡ slice_get (take k label) 0
  first_is = ap (λ xs. slice_get xs 0) (front_passes (λ m. nat_lt m n) label k (λ i d before within. point.0 i d (omega arith) before) (λ i d past within. point.1 i d past within))

  second_is : least_of_second n label ≡ slice_get (drop k label) 0
  second_is =
      ap (λ xs. slice_get xs 0)
      (rest_passes (λ m. nat_le n m) label k (λ i d before within. not_least (get_or label i d) n (point.0 i d (omega arith) before)) (λ i d past within. at_least (get_or label i d) n (point.1 i d past within)))

  -- and its two parts, cut there
  module _ (front back : List ℕ) (front_is : front ≡ take k label) (back_is : back ≡ drop k label) where
    pub second_past : (m : ℕ) → Some m ≡ slice_get back 0 → n ≤ m
    second_past m is =
        let found : slice_get (drop k label) 0 ≡ Some m = sym (is ∙ ap (λ xs. slice_get xs 0) back_is) in
        let within = slice_get_within (drop k label) 0 m found in
        let long = length-drop k label in
        let here : get_or label (k + 0) m ≡ m = sym (get_or-drop k label 0 m) ∙ get_or_from_slice_get (drop k label) 0 m m found in
        let past = ltb-false (get_or label (k + 0) m) n (point.1 (k + 0) m (omega arith) (omega (arith, within, long))) in
        omega (arith, here, past)

    -- the pair of the first members of the two parts
    pub pair_is : (first second : Option ℕ) → first ≡ slice_get front 0 → second ≡ slice_get back 0 → pair_with n first second ≡ pair_of n label
    pair_is first second is_first is_second =
        λ i. pair_with n ((is_first ∙ ap (λ xs. slice_get xs 0) front_is ∙ sym first_is) i) ((is_second ∙ ap (λ xs. slice_get xs 0) back_is ∙ sym second_is) i)
