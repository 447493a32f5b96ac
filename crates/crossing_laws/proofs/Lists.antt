-- Elements of lists, and sums over them.
use Rattle.std.proofs.Common.{◌≡◌, refl, ◌∙◌, ap, ℕ, suc, ◌+◌, List, [], ◌∷◌, map, Contains, sum_by, ℤ, ◌+ℤ◌, arith}
use Rattle.std.proofs.lemmas.List.{length-map, get_or-map}
use Rattle.std.proofs.lemmas.List.Sums.{sum_by-cons}
use Rattle.integer_laws.proofs.Ring.{lin}
use Rattle.crossing_laws.specs.Crossing.{int_sum_by}

pub contains_here : {X : Type 0} (x : X) (xs : List X) → Contains (x ∷ xs) x
contains_here x xs = (0, omega arith, refl)

pub contains_there : {X : Type 0} (x y : X) (xs : List X) → Contains xs y → Contains (x ∷ xs) y
contains_there x y xs (k, below, is) = (suc k, omega arith, is)

pub contains-map : {X Y : Type 0} (f : X → Y) (xs : List X) (x : X) → Contains xs x → Contains (map f xs) (f x)
contains-map f xs x (k, below, is) = (k, omega (arith, length-map xs f), get_or-map f xs k x (f x) below ∙ ap f is)

-- two sums each, which agree at each element
pub sums_agree : {X : Type 0} (a b c d : X → ℕ) (xs : List X) → ((x : X) → Contains xs x → a x + b x ≡ c x + d x)
    → sum_by a xs + sum_by b xs ≡ sum_by c xs + sum_by d xs
sums_agree a b c d [] h = refl
sums_agree a b c d (x ∷ xs) h =
    let first = h x (contains_here x xs) in
    let rest = sums_agree a b c d xs (λ y i. h y (contains_there x y xs i)) in
    omega (arith, sum_by-cons a x xs, sum_by-cons b x xs, sum_by-cons c x xs, sum_by-cons d x xs)

-- a sum that is two sums
pub sum_splits : {X : Type 0} (a b c : X → ℕ) (xs : List X) → ((x : X) → Contains xs x → a x ≡ b x + c x) → sum_by a xs ≡ sum_by b xs + sum_by c xs
sum_splits a b c [] h = refl
sum_splits a b c (x ∷ xs) h =
    let first = h x (contains_here x xs) in
    let rest = sum_splits a b c xs (λ y i. h y (contains_there x y xs i)) in
    omega (arith, sum_by-cons a x xs, sum_by-cons b x xs, sum_by-cons c x xs)

-- the same for whole numbers
pub int_sums_agree : {X : Type 0} (a b c d : X → ℤ) (xs : List X) → ((x : X) → Contains xs x → a x +ℤ b x ≡ c x +ℤ d x)
    → int_sum_by a xs +ℤ int_sum_by b xs ≡ int_sum_by c xs +ℤ int_sum_by d xs
int_sums_agree a b c d [] h = refl
int_sums_agree a b c d (x ∷ xs) h =
    let first = h x (contains_here x xs) in
    let rest = int_sums_agree a b c d xs (λ y i. h y (contains_there x y xs i)) in
    omega (arith, lin)

pub int_sum_splits : {X : Type 0} (a b c : X → ℤ) (xs : List X) → ((x : X) → Contains xs x → a x ≡ b x +ℤ c x) → int_sum_by a xs ≡ int_sum_by b xs +ℤ int_sum_by c xs
int_sum_splits a b c [] h = refl
int_sum_splits a b c (x ∷ xs) h =
    let first = h x (contains_here x xs) in
    let rest = int_sum_splits a b c xs (λ y i. h y (contains_there x y xs i)) in
    omega (arith, lin)
