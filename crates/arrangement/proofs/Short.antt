-- Facts of short lists, element by element.
use mathlib.Core.List.{[], ◌∷◌}
use Rattle.std.proofs.Common.{◌≡◌, sym, ◌∙◌, subst, zero, suc, Bool, true, false, not, ◌&&◌, ◌≢◌, List, get_or, arith}
use Rattle.std.specs.Prelude.{AllPairs, Contains, ⊤}
use Rattle.std.specs.List.{AllByRecursion, list_any, list_all}
use Rattle.std.proofs.lemmas.Bool.{false≢true, not-true, and_parts}
use Rattle.std.proofs.lemmas.List.Elements.{All-from_recursion, All-contains}
use Rattle.std.proofs.lemmas.List.Folds.{list_any_at, Any-from_list_any}
use Rattle.std.proofs.lemmas.List.Sums.{AllPass-from_list_all}
use Rattle.cov_types.specs.declared.coord.Coord.{Coord}
use Rattle.cov_types.specs.declared.seg.Seg.{Seg}
use Rattle.cov_types.specs.Coord.{is_same_coord}
use Rattle.cov_types.proofs.Equal.{Decides-same_coords, Decides-same_segs}
use Rattle.crossing_laws.specs.Across.{is_same_seg}

-- R holds of each element and each later one, by recursion
abbrev pub PairsByRecursion : {X : Type 0} → (X → X → Type 0) → List X → Type 0
PairsByRecursion R [] = ⊤
PairsByRecursion R (x ∷ xs) = AllByRecursion (R x) xs × PairsByRecursion R xs

pub AllPairs-from_recursion : {X : Type 0} (R : X → X → Type 0) (xs : List X) → PairsByRecursion R xs → AllPairs R xs
AllPairs-from_recursion R [] h i j d before within = absurd (omega arith)
AllPairs-from_recursion R (x ∷ xs) h i zero d before within = absurd (omega arith)
AllPairs-from_recursion R (x ∷ xs) h zero (suc j) d before within = All-from_recursion (R x) xs h.0 j d (omega arith)
AllPairs-from_recursion R (x ∷ xs) h (suc i) (suc j) d before within = AllPairs-from_recursion R xs h.1 i j d (omega arith) (omega arith)

-- grid points that the test tells apart
pub apart_coords : (a b : Coord) → is_same_coord a b ≡ false → ¬ (a ≡ b)
apart_coords a b h same = false≢true (sym h ∙ (Decides-same_coords a b).1 same)

-- what holds of each two elements holds of two that are in the list
pub both_in : {X : Type 0} (R : X → X → Type 0) (xs : List X) (x y : X) → AllByRecursion (λ a. AllByRecursion (R a) xs) xs → Contains xs x → Contains xs y → R x y
both_in R xs x y h has_x has_y =
    let row = All-contains (λ a. AllByRecursion (R a) xs) xs x (All-from_recursion (λ a. AllByRecursion (R a) xs) xs h) has_x in
    All-contains (R x) xs y (All-from_recursion (R x) xs row) has_y

-- ---- lists whose elements a test tells apart

-- no element is the same as a later one
abbrev pub all_apart : {X : Type 0} → (X → X → Bool) → List X → Bool
all_apart same [] = true
all_apart same (x ∷ xs) = not (list_any (same x) xs) && all_apart same xs

pub apart_by_test : {X : Type 0} (same : X → X → Bool) → ((a b : X) → a ≡ b → same a b ≡ true) → (xs : List X) → all_apart same xs ≡ true → AllPairs (λ a b. a ≢ b) xs
apart_by_test same reflects [] h i j d before within = absurd (omega arith)
apart_by_test same reflects (x ∷ xs) h i zero d before within = absurd (omega arith)
apart_by_test same reflects (x ∷ xs) h zero (suc j) d before within = λ is.
    (let none = not-true (list_any (same x) xs) (and_parts _ _ h).0 in
    false≢true (sym none ∙ list_any_at (same x) xs j d (omega arith) (reflects x (get_or xs j d) is)))
apart_by_test same reflects (x ∷ xs) h (suc i) (suc j) d before within = apart_by_test same reflects xs (and_parts _ _ h).1 i j d (omega arith) (omega arith)

-- grid points and segments that are all different
pub coords_apart : (points : List Coord) → all_apart is_same_coord points ≡ true → AllPairs (λ a b. a ≢ b) points
coords_apart = apart_by_test is_same_coord (λ a b. (Decides-same_coords a b).1)

pub segs_apart : (segs : List Seg) → all_apart is_same_seg segs ≡ true → AllPairs (λ a b. a ≢ b) segs
segs_apart = apart_by_test is_same_seg (λ a b. (Decides-same_segs a b).1)

-- ---- lists with the same elements

-- each element of the first is the same as one of the second
abbrev pub all_in : {X : Type 0} → (X → X → Bool) → List X → List X → Bool
all_in same xs ys = list_all (λ x. list_any (same x) ys) xs

pub contains_by_test : {X : Type 0} (same : X → X → Bool) → ((a b : X) → same a b ≡ true → a ≡ b) → (xs ys : List X) → all_in same xs ys ≡ true → (x : X) → Contains xs x → Contains ys x
contains_by_test same decides xs ys h x has =
    let found = Any-from_list_any (same x) ys (All-contains (λ a. list_any (same a) ys ≡ true) xs x (AllPass-from_list_all (λ a. list_any (same a) ys) xs h) has) in
    subst (Contains ys) (sym (decides x found.1 found.4)) (found.0, found.2, found.3)

pub segs_in : (xs ys : List Seg) → all_in is_same_seg xs ys ≡ true → (e : Seg) → Contains xs e → Contains ys e
segs_in = contains_by_test is_same_seg (λ a b. (Decides-same_segs a b).0)
