-- The numbers below a count: what is at a place, what is made of them, and those below a lesser count.
use Rattle.std.proofs.Common.{◌≡◌, refl, sym, ◌∙◌, ap, ℕ, zero, suc, ◌+◌, ◌<◌, ◌≤◌, Bool, true, false, cond, nat_lt, List, [], ◌∷◌, ◌++◌, length, map, get_or, inl, inr, add-one, append-nil, arith}
use Rattle.std.specs.Prelude.{filter}
use Rattle.std.specs.List.{list_all}
use Rattle.std.proofs.Math.Seq.{get_or-append_seam}
use Rattle.std.proofs.lemmas.Bool.{and_parts, cases_order}
use Rattle.std.proofs.lemmas.Bool.Decides.{nat_tests}
use Rattle.std.proofs.lemmas.List.{length-append, map-append, get_or-map, get_or_append_left}
use Rattle.std.proofs.lemmas.List.Elements.{filter-append}
use Rattle.arrangement.proofs.Ascending.{all_below}
use Rattle.plane.specs.Label.{numbers_below}

pub numbers_count : (n : ℕ) → length (numbers_below n) ≡ n
numbers_count zero = refl
numbers_count (suc n) = length-append (numbers_below n) (n ∷ []) ∙ ap (λ k. k + 1) (numbers_count n) ∙ add-one n

-- each number is at its own place
pub number_at : (n k d : ℕ) → k < n → get_or (numbers_below n) k d ≡ k
number_at zero k d less = absurd (omega arith)
number_at (suc n) k d less = elim (cases_order k n) [
  | inl same ↦ ap (λ i. get_or (numbers_below n ++ n ∷ []) i d) (same ∙ sym (numbers_count n)) ∙ get_or-append_seam (numbers_below n) n [] d ∙ sym same
  | inr apart ↦ elim apart [
    | inl below ↦ get_or_append_left (numbers_below n) (n ∷ []) d k (let count = numbers_count n in omega arith) ∙ number_at n k d below
    | inr above ↦ absurd (omega arith)
  ]
]

-- ---- what is made of them

module _ {X : Type 0} (f : ℕ → X) where
  pub made_at : (n k : ℕ) (d : X) → k < n → get_or (map f (numbers_below n)) k d ≡ f k
  made_at n k d less = get_or-map f (numbers_below n) k 0 d (let count = numbers_count n in omega arith) ∙ ap f (number_at n k 0 less)

  -- one more
  pub made_more : (n : ℕ) (xs ys : List X) (x : X) → xs ≡ map f (numbers_below n) → ys ≡ xs ++ x ∷ [] → x ≡ f n → ys ≡ map f (numbers_below (n + 1))
  made_more n xs ys x so_far pushed is =
      pushed ∙ (λ i. so_far i ++ is i ∷ []) ∙ sym (map-append f (numbers_below n) (n ∷ [])) ∙ ap (λ k. map f (numbers_below k)) (sym (add-one n))

-- ---- those below a lesser count

all_kept : (p : ℕ → Bool) (xs : List ℕ) → list_all p xs ≡ true → filter p xs ≡ xs
all_kept p [] h = refl
all_kept p (x ∷ xs) h =
    let parts = and_parts _ _ h in
    ap (λ (b : Bool). cond b (x ∷ filter p xs) (filter p xs)) parts.0 ∙ ap (λ ys. x ∷ ys) (all_kept p xs parts.1)

not_below : (n m : ℕ) → n ≤ m → nat_lt m n ≡ false
not_below n m more = grind (arith, nat_tests)

pub below_lesser : (n m : ℕ) → n ≤ m → filter (λ g. nat_lt g n) (numbers_below m) ≡ numbers_below n
below_lesser n zero less = ap (λ k. filter (λ g. nat_lt g k) []) is ∙ ap numbers_below (sym is)
  where
    is : n ≡ 0
    is = omega arith
below_lesser n (suc m) less = elim (cases_order n (suc m)) [
  | inl same ↦ ap (λ k. filter (λ g. nat_lt g k) (numbers_below (suc m))) same ∙ all_kept (λ g. nat_lt g (suc m)) (numbers_below (suc m)) (all_below (suc m)) ∙ ap numbers_below (sym same)
  | inr apart ↦ elim apart [
    | inl before ↦
        filter-append (λ g. nat_lt g n) (numbers_below m) (m ∷ [])
        ∙ ap (λ (b : Bool). filter (λ g. nat_lt g n) (numbers_below m) ++ cond b (m ∷ []) []) (not_below n m (omega arith))
        ∙ append-nil (filter (λ g. nat_lt g n) (numbers_below m)) ∙ below_lesser n m (omega arith)
    | inr after ↦ absurd (omega arith)
  ]
]

-- two tests may change places
swap_one : {X : Type 0} (p q : X → Bool) (x : X) (xs : List X) → filter p (filter q xs) ≡ filter q (filter p xs) → (a b : Bool) → p x ≡ a → q x ≡ b
    → filter p (filter q (x ∷ xs)) ≡ filter q (filter p (x ∷ xs))
swap_one p q x xs rest true true h k = (λ i. filter p (cond (k i) (x ∷ filter q xs) (filter q xs))) ∙ (λ i. cond (h i) (x ∷ filter p (filter q xs)) (filter p (filter q xs))) ∙ ap (λ ys. x ∷ ys) rest
    ∙ (λ i. cond (sym k i) (x ∷ filter q (filter p xs)) (filter q (filter p xs))) ∙ (λ i. filter q (cond (sym h i) (x ∷ filter p xs) (filter p xs)))
swap_one p q x xs rest true false h k = (λ i. filter p (cond (k i) (x ∷ filter q xs) (filter q xs))) ∙ rest
    ∙ (λ i. cond (sym k i) (x ∷ filter q (filter p xs)) (filter q (filter p xs))) ∙ (λ i. filter q (cond (sym h i) (x ∷ filter p xs) (filter p xs)))
swap_one p q x xs rest false true h k = (λ i. filter p (cond (k i) (x ∷ filter q xs) (filter q xs))) ∙ (λ i. cond (h i) (x ∷ filter p (filter q xs)) (filter p (filter q xs))) ∙ rest
    ∙ (λ i. filter q (cond (sym h i) (x ∷ filter p xs) (filter p xs)))
swap_one p q x xs rest false false h k = (λ i. filter p (cond (k i) (x ∷ filter q xs) (filter q xs))) ∙ rest ∙ (λ i. filter q (cond (sym h i) (x ∷ filter p xs) (filter p xs)))

pub filter_swap : {X : Type 0} (p q : X → Bool) (xs : List X) → filter p (filter q xs) ≡ filter q (filter p xs)
filter_swap p q [] = refl
filter_swap p q (x ∷ xs) = swap_one p q x xs (filter_swap p q xs) (p x) (q x) refl refl
