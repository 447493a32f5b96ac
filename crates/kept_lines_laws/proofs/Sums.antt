-- Sums and counts over lists of which one element changes.
use mathlib.Core.List.{[], ◌∷◌}
use Rattle.std.proofs.Common.{◌≡◌, ◌≢◌, refl, sym, ◌∙◌, ap, subst, zero, suc, ℕ, ◌+◌, ◌≤◌, List, ◌++◌, arith}
use Rattle.std.specs.Prelude.{Contains, sum_by, flat_map, AllPairs, Some, slice_get}
use Rattle.std.proofs.lemmas.List.Concat.{flat_map-cons}
use Rattle.std.proofs.lemmas.List.Sums.{sum_by-append, sum_by-cons}
use Rattle.std.proofs.lemmas.Option.{none-some, same_Some}
use Rattle.crossing_laws.proofs.Lists.{contains_here, contains_there}

-- a sum over lists in a row
pub sum_flat : {X Y : Type 0} (f : Y → ℕ) (g : X → List Y) (xs : List X) → sum_by f (flat_map g xs) ≡ sum_by (λ x. sum_by f (g x)) xs
sum_flat f g [] = refl
sum_flat f g (x ∷ xs) =
    ap (sum_by f) (flat_map-cons g x xs) ∙ sum_by-append f (g x) (flat_map g xs) ∙ ap (λ n. sum_by f (g x) + n) (sum_flat f g xs) ∙ sym (sum_by-cons (λ y. sum_by f (g y)) x xs)

pub sums_same : {X : Type 0} (f g : X → ℕ) (xs : List X) → ((x : X) → Contains xs x → f x ≡ g x) → sum_by f xs ≡ sum_by g xs
sums_same f g [] each = refl
sums_same f g (x ∷ xs) each =
    sum_by-cons f x xs ∙ (λ i. each x (contains_here x xs) i + sums_same f g xs (λ y has. each y (contains_there x y xs has)) i) ∙ sym (sum_by-cons g x xs)

placed_later : {X : Type 0} (xs : List X) (x : X) → Contains xs x → (k : ℕ) × (slice_get xs k ≡ Some x)
placed_later [] x has = absurd (let within = has.1 in omega arith)
placed_later (y ∷ xs) x (zero, inside, is) = (0, ap Some is)
placed_later (y ∷ xs) x (suc k, inside, is) = let rest = placed_later xs x (k, omega arith, is) in (suc rest.0, rest.1)

-- two sums that differ at one place alone
pub one_place_sum : {X : Type 0} (f g : X → ℕ) (m n : ℕ) (xs : List X) (k : ℕ) (x : X) → slice_get xs k ≡ Some x
    → ((j : ℕ) (y : X) → slice_get xs j ≡ Some y → j ≢ k → f y ≡ g y) → f x + m ≡ g x + n → sum_by f xs + m ≡ sum_by g xs + n
one_place_sum f g m n [] k x at same here = absurd (none-some x at)
one_place_sum f g m n (y ∷ xs) zero x at same here =
    let rest = sums_same f g xs (λ z has. (let (j, placed) = placed_later xs z has in same (suc j) z placed (λ e. (let none : suc j ≡ 0 = e in absurd (omega arith))))) in
    let first = same_Some y x at in
    let value : f y + m ≡ g y + n = subst (λ z. f z + m ≡ g z + n) (sym first) here in
    let a = sum_by-cons f y xs in
    let b = sum_by-cons g y xs in
    omega arith
one_place_sum f g m n (y ∷ xs) (suc k) x at same here =
    let rest = one_place_sum f g m n xs k x at (λ j z placed apart. same (suc j) z placed (λ e. apart (let z : suc j ≡ suc k = e in omega arith))) here in
    let first = same 0 y refl (λ e. (let none : 0 ≡ suc k = e in absurd (omega arith))) in
    let a = sum_by-cons f y xs in
    let b = sum_by-cons g y xs in
    omega arith

-- a part of a sum is at most the sum
pub one_at_most : {X : Type 0} (f : X → ℕ) (xs : List X) (x : X) → Contains xs x → f x ≤ sum_by f xs
one_at_most f [] x has = absurd (let within = has.1 in omega arith)
one_at_most f (y ∷ xs) x (zero, inside, is) = let a = sum_by-cons f y xs in let e = ap f is in omega arith
one_at_most f (y ∷ xs) x (suc k, inside, is) = let a = sum_by-cons f y xs in let rest = one_at_most f xs x (k, omega arith, is) in omega arith

-- ---- lists with the same elements, each once

record IsSplitAt {X : Type 0} (xs : List X) (x : X) : Type 0 where
  before : List X
  after : List X
  is : xs ≡ before ++ x ∷ after

split_at : {X : Type 0} (xs : List X) (x : X) → Contains xs x → IsSplitAt xs x
split_at [] x has = absurd (let within = has.1 in omega arith)
split_at (y ∷ xs) x (zero, inside, is) = record { before = []; after = xs; is = ap (λ z. z ∷ xs) is }
split_at (y ∷ xs) x (suc k, inside, is) = let rest = split_at xs x (k, omega arith, is) in record { before = y ∷ rest.before; after = rest.after; is = ap (λ zs. y ∷ zs) rest.is }

other_kept : {X : Type 0} (before after : List X) (x y : X) → y ≢ x → Contains (before ++ x ∷ after) y → Contains (before ++ after) y
other_kept [] after x y apart (zero, inside, is) = absurd (apart (sym is))
other_kept [] after x y apart (suc k, inside, is) = (k, omega arith, is)
other_kept (z ∷ before) after x y apart (zero, inside, is) = (0, omega arith, is)
other_kept (z ∷ before) after x y apart (suc k, inside, is) = contains_there z y (before ++ after) (other_kept before after x y apart (k, omega arith, is))

-- what stands once in the first and in the second too, adds up to no more there
pub sum_among : {X : Type 0} (f : X → ℕ) (xs ys : List X) → AllPairs (λ x y. x ≢ y) xs → ((x : X) → Contains xs x → Contains ys x) → sum_by f xs ≤ sum_by f ys
sum_among f [] ys distinct among = omega arith
sum_among f (x ∷ xs) ys distinct among =
    let split = split_at ys x (among x (contains_here x xs)) in
    let rest = sum_among f xs (split.before ++ split.after) (λ i j d less within. distinct (suc i) (suc j) d (omega arith) (omega arith))
    (λ y has. other_kept split.before split.after x y (λ e. differs y has e) (subst (λ zs. Contains zs y) split.is (among y (contains_there x y xs has)))) in
    let whole = ap (sum_by f) split.is ∙ sum_by-append f split.before (x ∷ split.after) in
    let one = sum_by-cons f x split.after in
    let others = sum_by-append f split.before split.after in
    let left = sum_by-cons f x xs in
    omega arith
  where
    differs : (y : _) → Contains xs y → y ≢ x
    differs y (k, inside, is) e = distinct 0 (suc k) y (omega arith) (omega arith) (sym e ∙ sym is)

pub sums_alike : {X : Type 0} (f : X → ℕ) (xs ys : List X) → AllPairs (λ x y. x ≢ y) xs → AllPairs (λ x y. x ≢ y) ys
    → ((x : X) → Contains xs x → Contains ys x) → ((x : X) → Contains ys x → Contains xs x) → sum_by f xs ≡ sum_by f ys
sums_alike f xs ys distinct distinct_too there back =
    let a = sum_among f xs ys distinct there in
    let b = sum_among f ys xs distinct_too back in
    omega arith
