-- The members of a label ascend.
use mathlib.Core.List.{[], ◌∷◌}
use Rattle.std.proofs.Common.{◌≡◌, refl, ◌∙◌, ap, ℕ, zero, suc, Bool, true, false, ◌&&◌, cond, nat_lt, List, ◌++◌, map, arith}
use Rattle.std.specs.Prelude.{filter, Option, Some, None, slice_get, option_to_list, flat_map}
use Rattle.std.specs.List.{list_all}
use Rattle.std.proofs.lemmas.Bool.{and_parts, and_from}
use Rattle.std.proofs.lemmas.Bool.Decides.{nat_tests}
use Rattle.plane.specs.Label.{numbers_below, label_at}
use Rattle.plane.specs.Region.{side_points}
use Rattle.plane.specs.Point.{Point}
use Rattle.arrangement.specs.Overlay.{Overlay, label_of}
use Rattle.arrangement.specs.Ascending.{ascend_by}

all_end : {X : Type 0} (p : X → Bool) (xs : List X) (y : X) → list_all p xs ≡ true → p y ≡ true → list_all p (xs ++ y ∷ []) ≡ true
all_end p [] y h k = and_from _ _ k refl
all_end p (x ∷ xs) y h k = let parts = and_parts _ _ h in and_from _ _ parts.0 (all_end p xs y parts.1 k)

all_filter : {X : Type 0} (p keep : X → Bool) (xs : List X) → list_all p xs ≡ true → list_all p (filter keep xs) ≡ true
all_filter p keep [] h = refl
all_filter {X} p keep (x ∷ xs) h = let parts = and_parts _ _ h in by (keep x) parts.0 (all_filter p keep xs parts.1)
  where
    by : (b : Bool) → p x ≡ true → list_all p (filter keep xs) ≡ true → list_all p (cond b (x ∷ filter keep xs) (filter keep xs)) ≡ true
    by true first rest = and_from _ _ first rest
    by false first rest = rest

all_map : {X Y : Type 0} (p : Y → Bool) (f : X → Y) (xs : List X) → list_all p (map f xs) ≡ list_all (λ x. p (f x)) xs
all_map p f [] = refl
all_map p f (x ∷ xs) = ap (λ b. p (f x) && b) (all_map p f xs)

-- ---- the numbers below a count

below : (n m : ℕ) → list_all (λ k. nat_lt k n) (numbers_below n) ≡ true → list_all (λ k. nat_lt k (suc n)) (numbers_below n) ≡ true
below n m h = more (numbers_below n) h
  where
    step : (k : ℕ) → nat_lt k n ≡ true → nat_lt k (suc n) ≡ true
    step k less = grind (arith, nat_tests)

    more : (xs : List ℕ) → list_all (λ k. nat_lt k n) xs ≡ true → list_all (λ k. nat_lt k (suc n)) xs ≡ true
    more [] h = refl
    more (x ∷ xs) h = let parts = and_parts _ _ h in and_from _ _ (step x parts.0) (more xs parts.1)

itself_below : (n : ℕ) → nat_lt n (suc n) ≡ true
itself_below n = grind (arith, nat_tests)

pub all_below : (n : ℕ) → list_all (λ k. nat_lt k n) (numbers_below n) ≡ true
all_below zero = refl
all_below (suc n) = all_end (λ k. nat_lt k (suc n)) (numbers_below n) n (below n n (all_below n)) (itself_below n)

ascend_end : (xs : List ℕ) (n : ℕ) → ascend_by (λ k. k) xs ≡ true → list_all (λ k. nat_lt k n) xs ≡ true → ascend_by (λ k. k) (xs ++ n ∷ []) ≡ true
ascend_end [] n h k = refl
ascend_end (x ∷ xs) n h k =
    let up = and_parts _ _ h in
    let less = and_parts _ _ k in
    and_from _ _ (all_end (λ y. nat_lt x y) xs n up.0 less.0) (ascend_end xs n up.1 less.1)

pub numbers_ascend : (n : ℕ) → ascend_by (λ k. k) (numbers_below n) ≡ true
numbers_ascend zero = refl
numbers_ascend (suc n) = ascend_end (numbers_below n) n (numbers_ascend n) (all_below n)

-- ---- labels

pub ascend_filter : {X : Type 0} (key : X → ℕ) (keep : X → Bool) (xs : List X) → ascend_by key xs ≡ true → ascend_by key (filter keep xs) ≡ true
ascend_filter key keep [] h = refl
ascend_filter {X} key keep (x ∷ xs) h =
    let parts = and_parts _ _ h in
    by (keep x) (all_filter (λ y. nat_lt (key x) (key y)) keep xs parts.0) (ascend_filter key keep xs parts.1)
  where
    by : (b : Bool) → list_all (λ y. nat_lt (key x) (key y)) (filter keep xs) ≡ true → ascend_by key (filter keep xs) ≡ true → ascend_by key (cond b (x ∷ filter keep xs) (filter keep xs)) ≡ true
    by true first rest = and_from _ _ first rest
    by false first rest = rest

pub ascend_map : {X Y : Type 0} (key : Y → ℕ) (f : X → Y) (xs : List X) → ascend_by key (map f xs) ≡ ascend_by (λ x. key (f x)) xs
ascend_map key f [] = refl
ascend_map key f (x ∷ xs) = λ i. all_map (λ y. nat_lt (key (f x)) (key y)) f xs i && ascend_map key f xs i

ascend_one : {X : Type 0} (key : X → ℕ) (xs : List X) → ascend_by key xs ≡ true → ascend_by key (xs ++ []) ≡ true
ascend_one key [] h = refl
ascend_one key (x ∷ xs) h = let parts = and_parts _ _ h in and_from _ _ (same (λ y. nat_lt (key x) (key y)) xs parts.0) (ascend_one key xs parts.1)
  where
    same : {Y : Type 0} (p : Y → Bool) (ys : List Y) → list_all p ys ≡ true → list_all p (ys ++ []) ≡ true
    same p [] h = refl
    same p (y ∷ ys) h = let parts = and_parts _ _ h in and_from _ _ parts.0 (same p ys parts.1)

pub label_ascends : (o : Overlay) (r : ℕ) → ascend_by (λ k. k) (label_of o r) ≡ true
label_ascends o r = by (slice_get (side_points o.edges) r)
  where
    by : (side : Option Point) → ascend_by (λ k. k) (flat_map (label_at o.uses o.members) (option_to_list side)) ≡ true
    by None = refl
    by (Some p) = ascend_one (λ k. k) (label_at o.uses o.members p) (ascend_filter (λ k. k) _ (numbers_below o.members) (numbers_ascend o.members))

-- so what is made of them, each with its number, ascends too
pub ascend_mapped : {X Y : Type 0} (key : Y → ℕ) (f : X → Y) (xs : List X) → ascend_by (λ x. key (f x)) xs ≡ true → ascend_by key (map f xs) ≡ true
ascend_mapped key f xs h = ascend_map key f xs ∙ h
