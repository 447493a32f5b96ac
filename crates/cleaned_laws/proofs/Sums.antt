-- Sums over joined lists, in either order, and of tests that one element passes at most.
use mathlib.Core.List.{[], ◌∷◌}
use Rattle.std.proofs.Common.{◌≡◌, inl, inr, refl, sym, ◌∙◌, ap, subst, ℕ, zero, suc, ◌+◌, ◌<◌, ◌≤◌, ◌%◌, Bool, true, false, cond, List, length, map, arith}
use Rattle.std.specs.Prelude.{Contains, sum_by, flat_map, Some, slice_get}
use Rattle.std.proofs.lemmas.List.Sums.{sum_by-cons, sum_by-append}
use Rattle.std.specs.List.{enumerate_from}
use Rattle.std.proofs.lemmas.Option.{none-some, same_Some, slice_get_within, get_or_from_slice_get}
use Rattle.crossing_laws.proofs.Lists.{contains_here, contains_there}
use Rattle.region_laws.proofs.Balance.{first_or_later}

-- ---- joined lists

pub sum_flat : {X Y : Type 0} (f : Y → ℕ) (g : X → List Y) (xs : List X) → sum_by f (flat_map g xs) ≡ sum_by (λ x. sum_by f (g x)) xs
sum_flat f g [] = refl
sum_flat f g (x ∷ xs) = sum_by-append f (g x) (flat_map g xs) ∙ ap (λ n. sum_by f (g x) + n) (sum_flat f g xs) ∙ sym (sum_by-cons (λ y. sum_by f (g y)) x xs)

pub sum_map : {X Y : Type 0} (f : Y → ℕ) (g : X → Y) (xs : List X) → sum_by f (map g xs) ≡ sum_by (λ x. f (g x)) xs
sum_map f g [] = refl
sum_map f g (x ∷ xs) = sum_by-cons f (g x) (map g xs) ∙ ap (λ n. f (g x) + n) (sum_map f g xs) ∙ sym (sum_by-cons (λ y. f (g y)) x xs)

pub sum_same : {X : Type 0} (f g : X → ℕ) (xs : List X) → ((x : X) → Contains xs x → f x ≡ g x) → sum_by f xs ≡ sum_by g xs
sum_same f g [] same = refl
sum_same f g (x ∷ xs) same =
    sum_by-cons f x xs
    ∙ (λ i. same x (contains_here x xs) i + sum_same f g xs (λ y has. same y (contains_there x y xs has)) i)
    ∙ sym (sum_by-cons g x xs)

pub sum_at_most : {X : Type 0} (f g : X → ℕ) (xs : List X) → ((x : X) → Contains xs x → f x ≤ g x) → sum_by f xs ≤ sum_by g xs
sum_at_most f g [] less = omega arith
sum_at_most f g (x ∷ xs) less =
    let first = less x (contains_here x xs) in
    let rest = sum_at_most f g xs (λ y has. less y (contains_there x y xs has)) in
    omega (arith, sum_by-cons f x xs, sum_by-cons g x xs)

pub sum_none : {X : Type 0} (f : X → ℕ) (xs : List X) → ((x : X) → Contains xs x → f x ≡ 0) → sum_by f xs ≡ 0
sum_none f [] none = refl
sum_none f (x ∷ xs) none =
    let first = none x (contains_here x xs) in
    let rest = sum_none f xs (λ y has. none y (contains_there x y xs has)) in
    omega (arith, sum_by-cons f x xs)

pub sum_of_sums : {X : Type 0} (f g : X → ℕ) (xs : List X) → sum_by (λ x. f x + g x) xs ≡ sum_by f xs + sum_by g xs
sum_of_sums f g [] = refl
sum_of_sums f g (x ∷ xs) = omega (arith, sum_by-cons (λ y. f y + g y) x xs, sum_by-cons f x xs, sum_by-cons g x xs, sum_of_sums f g xs)

-- ---- in either order

pub sum_exchanged : {X Y : Type 0} (f : X → Y → ℕ) (xs : List X) (ys : List Y) → sum_by (λ x. sum_by (λ y. f x y) ys) xs ≡ sum_by (λ y. sum_by (λ x. f x y) xs) ys
sum_exchanged f [] ys = sym (sum_none (λ y. 0) ys (λ y has. refl))
sum_exchanged f (x ∷ xs) ys =
    sum_by-cons (λ z. sum_by (λ y. f z y) ys) x xs
    ∙ ap (λ n. sum_by (λ y. f x y) ys + n) (sum_exchanged f xs ys)
    ∙ sym (sum_of_sums (λ y. f x y) (λ y. sum_by (λ z. f z y) xs) ys)
    ∙ sum_same (λ y. f x y + sum_by (λ z. f z y) xs) (λ y. sum_by (λ z. f z y) (x ∷ xs)) ys (λ y has. sym (sum_by-cons (λ z. f z y) x xs))

-- ---- parity

pub parity_of_sum : (a b c d : ℕ) → a % 2 ≡ c % 2 → b % 2 ≡ d % 2 → (a + b) % 2 ≡ (c + d) % 2
parity_of_sum a b c d e f = omega arith

pub sum_parity : {X : Type 0} (f g : X → ℕ) (xs : List X) → ((x : X) → Contains xs x → f x % 2 ≡ g x % 2) → sum_by f xs % 2 ≡ sum_by g xs % 2
sum_parity f g [] same = refl
sum_parity f g (x ∷ xs) same =
    ap (λ n. n % 2) (sum_by-cons f x xs)
    ∙ parity_of_sum _ _ _ _ (same x (contains_here x xs)) (sum_parity f g xs (λ y has. same y (contains_there x y xs has)))
    ∙ ap (λ n. n % 2) (sym (sum_by-cons g x xs))

-- ---- single elements

pub one_of_sum : {X : Type 0} (f : X → ℕ) (xs : List X) (x : X) → Contains xs x → f x ≤ sum_by f xs
one_of_sum f [] x has = absurd (omega (arith, has.1))
one_of_sum f (y ∷ xs) x has = elim (first_or_later y xs x has) [
  | inl here ↦ (let same = ap f here in omega (arith, same, sum_by-cons f y xs))
  | inr later ↦ (let rest = one_of_sum f xs x later in omega (arith, rest, sum_by-cons f y xs))
]

pub some_counted : {X : Type 0} (f : X → ℕ) (xs : List X) → 1 ≤ sum_by f xs → (x : X) × (Contains xs x × (1 ≤ f x))
some_counted f [] some = absurd (omega arith)
some_counted {X} f (x ∷ xs) some = by (some_counted f xs) (f x) refl
  where
    by : (1 ≤ sum_by f xs → (y : X) × (Contains xs y × (1 ≤ f y))) → (n : ℕ) → f x ≡ n → (y : X) × (Contains (x ∷ xs) y × (1 ≤ f y))
    by later zero none = let rest = later (omega (arith, none, sum_by-cons f x xs, some)) in (rest.0, (contains_there x rest.0 xs rest.1.0, rest.1.1))
    by later (suc n) is = (x, (contains_here x xs, omega (arith, is)))

-- ---- at most one passes

-- two places whose elements pass are one
abbrev pub PassOnce : {X : Type 0} → (X → Bool) → List X → Type 0
PassOnce {X} p xs = (m n : ℕ) (a b : X) → slice_get xs m ≡ Some a → slice_get xs n ≡ Some b → p a ≡ true → p b ≡ true → m ≡ n

pub at_most_one : {X : Type 0} (p : X → Bool) (n : ℕ) (xs : List X) → PassOnce p xs → sum_by (λ x. cond (p x) n 0) xs ≤ n
at_most_one p n [] one = omega arith
at_most_one {X} p n (x ∷ xs) one = by (at_most_one p n xs) (p x) refl
  where
    at_place : (ys : List X) (y : X) → Contains ys y → (k : ℕ) × (slice_get ys k ≡ Some y)
    at_place [] y is = absurd (omega (arith, is.1))
    at_place (z ∷ ys) y is = elim (first_or_later z ys y is) [
      | inl here ↦ (0, ap (λ (w : X). Some w) here)
      | inr later ↦ (let rest = at_place ys y later in (suc rest.0, rest.1))
    ]

    none_later : p x ≡ true → (y : X) → Contains xs y → (b : Bool) → p y ≡ b → cond b n 0 ≡ 0
    none_later first y has true is = let k = at_place xs y has in absurd (let same = one 0 (suc k.0) x y refl k.1 first is in omega (arith, same))
    none_later first y has false is = refl

    by : (PassOnce p xs → sum_by (λ y. cond (p y) n 0) xs ≤ n) → (b : Bool) → p x ≡ b → sum_by (λ y. cond (p y) n 0) (x ∷ xs) ≤ n
    by later true first =
        let rest = sum_none (λ y. cond (p y) n 0) xs (λ y has. none_later first y has (p y) refl) in
        let here = ap (λ b. cond b n 0) first in
        omega (arith, rest, here, sum_by-cons (λ y. cond (p y) n 0) x xs)
    by later false first =
        let rest = later (λ m k a b at_a at_b pass_a pass_b. (let same = one (suc m) (suc k) a b at_a at_b pass_a pass_b in omega (arith, same))) in
        let here = ap (λ b. cond b n 0) first in
        omega (arith, rest, here, sum_by-cons (λ y. cond (p y) n 0) x xs)

-- two places whose elements pass count two
pub two_counted : {X : Type 0} (f : X → ℕ) (xs : List X) (i j : ℕ) (x y : X) → i < j → slice_get xs i ≡ Some x → slice_get xs j ≡ Some y → 1 ≤ f x → 1 ≤ f y → 2 ≤ sum_by f xs
two_counted f [] i j x y less at_x at_y one_x one_y = absurd (none-some x at_x)
two_counted f (z ∷ xs) i zero x y less at_x at_y one_x one_y = absurd (omega (arith, less))
two_counted f (z ∷ xs) zero (suc j) x y less at_x at_y one_x one_y =
    let here = ap f (same_Some _ _ at_x) in
    let rest = one_of_sum f xs y (j, slice_get_within xs j y at_y, get_or_from_slice_get xs j y y at_y) in
    omega (arith, here, rest, one_x, one_y, sum_by-cons f z xs)
two_counted f (z ∷ xs) (suc i) (suc j) x y less at_x at_y one_x one_y =
    let rest = two_counted f xs i j x y (omega (arith, less)) at_x at_y one_x one_y in
    omega (arith, rest, sum_by-cons f z xs)

-- ---- numbered lists

pub sum_numbered : {X : Type 0} (f : X → ℕ) (n : ℕ) (xs : List X) → sum_by (λ p. f p.1) (enumerate_from n xs) ≡ sum_by f xs
sum_numbered f n [] = refl
sum_numbered f n (x ∷ xs) = sum_by-cons (λ p. f p.1) (n, x) (enumerate_from (n + 1) xs) ∙ ap (λ k. f x + k) (sum_numbered f (n + 1) xs) ∙ sym (sum_by-cons f x xs)

pub numbered_within : {X : Type 0} (n : ℕ) (xs : List X) (p : ℕ × X) → Contains (enumerate_from n xs) p → Contains xs p.1 × (p.0 < n + length xs)
numbered_within n [] p has = absurd (omega (arith, has.1))
numbered_within {X} n (x ∷ xs) p has = elim (first_or_later (n, x) (enumerate_from (n + 1) xs) p has) [
  | inl here ↦ (let number = ap (λ (q : ℕ × X). q.0) here in (subst (Contains (x ∷ xs)) (ap (λ (q : ℕ × X). q.1) here) (contains_here x xs), omega (arith, number)))
  | inr later ↦ (let rest = numbered_within (n + 1) xs p later in let within = rest.1 in (contains_there x p.1 xs rest.0, omega (arith, within)))
]
