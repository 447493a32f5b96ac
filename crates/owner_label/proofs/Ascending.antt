-- Ascending lists of numbers: two with the same numbers are one.
use mathlib.Core.List.{[], ◌∷◌}
use Rattle.std.proofs.Common.{◌≡◌, refl, sym, ◌∙◌, ap, subst, ℕ, zero, suc, ◌+◌, ◌≤◌, ◌<◌, ◌==◌, Bool, true, false, ◌||◌, ◌&&◌, cond, ltb, List, ◌++◌, filter, count_by, Contains, ◌↔◌, ◌⊎◌, inl, inr, zero-add, arith}
use Rattle.std.proofs.lemmas.Bool.{false≢true, or_from, or_left, or_right, or_cases, and_parts, and_from, ltb-true, ne_eqb, eq-eqb, eqb-true, lt-ltb, le-ltb, cases_order, cases_Bool}
use Rattle.std.proofs.lemmas.List.Elements.{filter-append}
use Rattle.std.proofs.lemmas.List.Sums.{sum_by-cons}
use Rattle.plane.specs.Label.{numbers_below}
use Rattle.owner_label.specs.Members.{has, IsFrom}

pub from_weaker : (n m : ℕ) (xs : List ℕ) → n ≤ m → IsFrom m xs → IsFrom n xs
from_weaker n m [] h f = tt
from_weaker n m (x ∷ xs) h f = (omega (arith, f.0), f.1)

-- a number below the first is not there
pub below_from : (n m : ℕ) (xs : List ℕ) → IsFrom n xs → m < n → has xs m ≡ false
below_from n m [] f h = refl
below_from n m (x ∷ xs) f h = or_from (x == m) (has xs m) (ne_eqb x m (λ e. omega (arith, f.0, e))) (below_from (suc x) m xs f.1 (omega (arith, f.0)))

pub has_first : (x : ℕ) (xs : List ℕ) → has (x ∷ xs) x ≡ true
has_first x xs = or_left (x == x) (has xs x) (eq-eqb x x refl)

pub has_skip : (x m : ℕ) (xs : List ℕ) → (x == m) ≡ false → has (x ∷ xs) m ≡ has xs m
has_skip x m xs e = ap (λ t. t || has xs m) e

-- ascending lists with the same numbers are one
pub same_ascending : (n : ℕ) (xs ys : List ℕ) → IsFrom n xs → IsFrom n ys → ((m : ℕ) → has xs m ≡ has ys m) → xs ≡ ys
same_ascending n [] [] f g h = refl
same_ascending n [] (y ∷ ys) f g h = absurd (false≢true (h y ∙ has_first y ys))
same_ascending n (x ∷ xs) [] f g h = absurd (false≢true (sym (h x) ∙ has_first x xs))
same_ascending n (x ∷ xs) (y ∷ ys) f g h =
    elim (cases_order x y) [
      | inl same ↦ (
          let here : IsFrom (suc x) ys = subst (λ t. IsFrom (suc t) ys) (sym same) g.1 in
          let rest = same_ascending (suc x) xs ys f.1 here (λ m. elim (cases_Bool (x == m)) [
            | inl is ↦ (
                let below : m < suc x = omega (arith, eqb-true x m is) in
                below_from (suc x) m xs f.1 below ∙ sym (below_from (suc x) m ys here below)
                )
            | inr other ↦ sym (has_skip x m xs other) ∙ h m ∙ has_skip y m ys (ap (λ t. t == m) (sym same) ∙ other)
          ]) in
          λ i. same i ∷ rest i
          )
      | inr apart ↦ elim apart [
        | inl less ↦ absurd (false≢true (sym (below_from y x (y ∷ ys) (omega arith, g.1) less) ∙ sym (h x) ∙ has_first x xs))
        | inr more ↦ absurd (false≢true (sym (below_from x y (x ∷ xs) (omega arith, f.1) more) ∙ h y ∙ has_first y ys))
      ]
    ]

-- ---- numbers below a count that pass a test

has-append : (xs ys : List ℕ) (m : ℕ) → has (xs ++ ys) m ≡ (has xs m || has ys m)
has-append [] ys m = refl
has-append (x ∷ xs) ys m = ap (λ t. (x == m) || t) (has-append xs ys m) ∙ sym (or_assoc (x == m) (has xs m) (has ys m))
  where
    or_assoc : (a b c : Bool) → ((a || b) || c) ≡ (a || (b || c))
    or_assoc true b c = refl
    or_assoc false b c = refl

-- the numbers ascend from n, and are below the end
abbrev IsWithin : ℕ → ℕ → List ℕ → Type 0
IsWithin n end [] = n ≤ end
IsWithin n end (x ∷ xs) = (n ≤ x) × IsWithin (suc x) end xs

from_within : (n end : ℕ) (xs : List ℕ) → IsWithin n end xs → IsFrom n xs
from_within n end [] w = tt
from_within n end (x ∷ xs) w = (w.0, from_within (suc x) end xs w.1)

within_more : (n end : ℕ) (xs : List ℕ) → IsWithin n end xs → IsWithin n (suc end) xs
within_more n end [] w = omega arith
within_more n end (x ∷ xs) w = (w.0, within_more (suc x) end xs w.1)

within_push : (n end : ℕ) (xs : List ℕ) → IsWithin n end xs → IsWithin n (suc end) (xs ++ end ∷ [])
within_push n end [] w = (w, omega arith)
within_push n end (x ∷ xs) w = (w.0, within_push (suc x) end xs w.1)

append_nothing : (xs : List ℕ) → xs ++ [] ≡ xs
append_nothing [] = refl
append_nothing (x ∷ xs) = ap (λ ys. x ∷ ys) (append_nothing xs)

one_more : (n : ℕ) (xs : List ℕ) → IsWithin 0 n xs → (b : Bool) → IsWithin 0 (suc n) (xs ++ cond b (n ∷ []) [])
one_more n xs w true = within_push 0 n xs w
one_more n xs w false = subst (λ ys. IsWithin 0 (suc n) ys) (sym (append_nothing xs)) (within_more 0 n xs w)

chosen_within : (p : ℕ → Bool) (count : ℕ) → IsWithin 0 count (filter p (numbers_below count))
chosen_within p zero = omega arith
chosen_within p (suc n) =
    subst (λ xs. IsWithin 0 (suc n) xs) (sym (filter-append p (numbers_below n) (n ∷ []))) (one_more n (filter p (numbers_below n)) (chosen_within p n) (p n))

pub chosen_from : (p : ℕ → Bool) (count : ℕ) → IsFrom 0 (filter p (numbers_below count))
chosen_from p count = from_within 0 count (filter p (numbers_below count)) (chosen_within p count)

pub chosen_has : (p : ℕ → Bool) (count m : ℕ) → has (filter p (numbers_below count)) m ≡ (ltb m count && p m)
chosen_has p zero m = ap (λ t. t && p m) (sym (le-ltb m 0 (omega arith)))
chosen_has p (suc n) m =
    ap (λ xs. has xs m) (filter-append p (numbers_below n) (n ∷ []))
    ∙ has-append (filter p (numbers_below n)) (filter p (n ∷ [])) m
    ∙ ap (λ t. t || has (filter p (n ∷ [])) m) (chosen_has p n m)
    ∙ last (cases_order m n)
  where
    only : (b : Bool) → has (cond b (n ∷ []) []) n ≡ b
    only true = has_first n []
    only false = refl

    none : (b : Bool) → (n == m) ≡ false → has (cond b (n ∷ []) []) m ≡ false
    none true e = or_from (n == m) false e refl
    none false e = refl

    or_false : (a b : Bool) → b ≡ false → (a || b) ≡ a
    or_false true b e = refl
    or_false false b e = e

    last : (m ≡ n) ⊎ ((m < n) ⊎ (n < m)) → ((ltb m n && p m) || has (filter p (n ∷ [])) m) ≡ (ltb m (suc n) && p m)
    last (inl same) =
        ap (λ t. (t && p m) || has (cond (p n) (n ∷ []) []) m) (le-ltb m n (omega arith))
        ∙ subst (λ k. has (cond (p n) (n ∷ []) []) k ≡ p k) (sym same) (only (p n))
        ∙ ap (λ t. t && p m) (sym (lt-ltb m (suc n) (omega arith)))
    last (inr (inl less)) =
        or_false (ltb m n && p m) (has (filter p (n ∷ [])) m) (none (p n) (ne_eqb n m (λ e. omega arith)))
        ∙ ap (λ t. t && p m) (lt-ltb m n less ∙ sym (lt-ltb m (suc n) (omega arith)))
    last (inr (inr more)) =
        or_false (ltb m n && p m) (has (filter p (n ∷ [])) m) (none (p n) (ne_eqb n m (λ e. omega arith)))
        ∙ ap (λ t. t && p m) (le-ltb m n (omega arith) ∙ sym (le-ltb m (suc n) (omega arith)))

-- the numbers below the count that pass
pub chosen_contains : (p : ℕ → Bool) (count m : ℕ) → Contains (filter p (numbers_below count)) m ↔ ((m < count) × (p m ≡ true))
chosen_contains p count m = (there, back)
  where
    listed : (xs : List ℕ) → Contains xs m → has xs m ≡ true
    listed [] c = absurd (omega (arith, c.1))
    listed (x ∷ xs) (zero, within, is) = or_left (x == m) (has xs m) (eq-eqb x m is)
    listed (x ∷ xs) (suc k, within, is) = or_right (x == m) (has xs m) (listed xs (k, omega arith, is))

    found : (xs : List ℕ) → has xs m ≡ true → Contains xs m
    found [] h = absurd (false≢true h)
    found (x ∷ xs) h = elim (or_cases (x == m) (has xs m) h) [
      | inl first ↦ (0, omega arith, eqb-true x m first)
      | inr later ↦ (let rest = found xs later in (suc rest.0, omega (arith, rest.1), rest.2))
    ]

    there : Contains (filter p (numbers_below count)) m → (m < count) × (p m ≡ true)
    there c = let both = and_parts (ltb m count) (p m) (sym (chosen_has p count m) ∙ listed (filter p (numbers_below count)) c) in (ltb-true m count both.0, both.1)

    back : (m < count) × (p m ≡ true) → Contains (filter p (numbers_below count)) m
    back h = found (filter p (numbers_below count)) (chosen_has p count m ∙ and_from (ltb m count) (p m) (lt-ltb m count h.0) h.1)

-- ---- how often a number stands in an ascending list

counted : (m x : ℕ) (xs : List ℕ) (first rest whole : ℕ) → cond (x == m) 1 0 ≡ first → count_by (λ y. y == m) xs ≡ rest → first + rest ≡ whole → count_by (λ y. y == m) (x ∷ xs) ≡ whole
counted m x xs first rest whole e f g = sum_by-cons (λ y. cond (y == m) 1 0) x xs ∙ (λ i. e i + f i) ∙ g

pub count_from : (n m : ℕ) (xs : List ℕ) → IsFrom n xs → count_by (λ x. x == m) xs ≡ cond (has xs m) 1 0
count_from n m [] f = refl
count_from n m (x ∷ xs) f =
    elim (cases_Bool (x == m)) [
      | inl is ↦ (
          let none = below_from (suc x) m xs f.1 (omega (arith, eqb-true x m is)) in
          counted m x xs 1 0 (cond (has (x ∷ xs) m) 1 0) (ap (λ t. cond t 1 0) is) (count_from (suc x) m xs f.1 ∙ ap (λ t. cond t 1 0) none)
          (sym (ap (λ t. cond t 1 0) (or_left (x == m) (has xs m) is)))
          )
      | inr other ↦
          counted m x xs 0 (cond (has xs m) 1 0) (cond (has (x ∷ xs) m) 1 0) (ap (λ t. cond t 1 0) other) (count_from (suc x) m xs f.1)
          (zero-add (cond (has xs m) 1 0) ∙ sym (ap (λ t. cond t 1 0) (has_skip x m xs other)))
    ]
