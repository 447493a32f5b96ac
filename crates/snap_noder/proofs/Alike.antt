-- Lists that have the same uses, each as often: over them each sum is the same, and so are their edges and odd pairs.
use mathlib.Core.List.{[], ◌∷◌}
use Rattle.std.proofs.Common.{◌≡◌, inl, inr, refl, sym, ◌∙◌, ap, subst, ℕ, suc, ◌+◌, ◌<◌, ◌%◌, Bool, true, false, cond, List, get_or, length, map, IsPermutation, arith}
use Rattle.std.specs.Prelude.{All, Contains, sum_by, count_by, flat_map, zip, swap}
use Rattle.std.specs.List.{AllZip}
use Rattle.std.proofs.Math.ListN.{set}
use Rattle.std.proofs.lemmas.List.{map-set, get_or-map, length-map}
use Rattle.std.proofs.lemmas.List.Sorted.{sum_by-IsPermutation, IsPermutation-keeps, IsPermutation-swap, IsPermutation-trans, IsPermutation-refl}
use Rattle.std.proofs.lemmas.List.Elements.{All-cons}
use Rattle.std.proofs.lemmas.List.Sums.{sum_by-append, sum_by-cons}
use Rattle.cov_types.specs.declared.edge_use.EdgeUse.{EdgeUse}
use Rattle.cov_types.specs.declared.seg.Seg.{Seg}
use Rattle.cov_types.proofs.Equal.{Decides-same_segs}
use Rattle.crossing_laws.specs.Across.{is_same_seg, member_times}
use Rattle.crossing_laws.proofs.Lists.{contains_here, contains_there, contains-map}
use Rattle.arrangement.specs.declared.odd_use.OddUse.{OddUse}
use Rattle.arrangement.specs.Noding.{segments, AreEdges}
use Rattle.arrangement.proofs.OddUses.{is_same_use}
use Rattle.snap_noder.proofs.ParityLemmas.{contains_mapped}
use Rattle.snap_noder.proofs.Times.{contains_cases}

-- every sum over the one is that over the other
abbrev pub HaveSameElements : {X : Type 0} → List X → List X → Type 0
HaveSameElements {X} us vs = (f : X → ℕ) → sum_by f us ≡ sum_by f vs

pub permuted_alike : {X : Type 0} (us vs : List X) → IsPermutation us vs → HaveSameElements us vs
permuted_alike us vs moved f = sym (sum_by-IsPermutation f us vs moved)

-- ---- what passes a test

first_counts : (c n m : ℕ) → m ≡ c + n → c ≡ 1 → 0 < m
first_counts c n m e f = omega arith

more_counts : (c n m : ℕ) → m ≡ c + n → 0 < n → 0 < m
more_counts c n m e some = omega arith

rest_counts : (c n m : ℕ) → m ≡ c + n → c ≡ 0 → 0 < m → 0 < n
rest_counts c n m e none some = omega arith

has_some : {X : Type 0} (p : X → Bool) (xs : List X) (x : X) → Contains xs x → p x ≡ true → 0 < count_by p xs
has_some p [] x (k, within, is) pass = absurd (omega arith)
has_some p (y ∷ xs) x has pass =
    let cons = sum_by-cons (λ z. cond (p z) 1 0) y xs in
    elim (contains_cases y x xs has) [
      | inl here ↦ first_counts (cond (p y) 1 0) (count_by p xs) (count_by p (y ∷ xs)) cons (ap (λ (t : Bool). cond t 1 0) (ap p here ∙ pass))
      | inr later ↦ more_counts (cond (p y) 1 0) (count_by p xs) (count_by p (y ∷ xs)) cons (has_some p xs x later pass)
    ]

some_has : {X : Type 0} (p : X → Bool) (xs : List X) → 0 < count_by p xs → (x : X) × (Contains xs x × (p x ≡ true))
some_has p [] some = absurd (omega arith)
some_has {X} p (x ∷ xs) some = by (λ h. some_has p xs h) (p x) refl
  where
    by : (0 < count_by p xs → (y : X) × (Contains xs y × (p y ≡ true))) → (t : Bool) → p x ≡ t → (y : X) × (Contains (x ∷ xs) y × (p y ≡ true))
    by later true e = (x, (contains_here x xs, e))
    by later false e =
        let rest = later (rest_counts (cond (p x) 1 0) (count_by p xs) (count_by p (x ∷ xs)) (sum_by-cons (λ z. cond (p z) 1 0) x xs) (ap (λ (t : Bool). cond t 1 0) e) some) in
        (rest.0, (contains_there x rest.0 xs rest.1.0, rest.1.1))

-- ---- their edges

same_segments : (us vs : List EdgeUse) → HaveSameElements us vs → (e : Seg) → Contains (segments us) e → Contains (segments vs) e
same_segments us vs alike e has =
    let u = contains_mapped (λ (w : EdgeUse). w.seg) us e has in
    let test : EdgeUse → Bool = λ w. is_same_seg e w.seg in
    let some = has_some test us u.0 u.1.0 ((Decides-same_segs e u.0.seg).1 (sym u.1.1)) in
    let v = some_has test vs (subst (λ n. 0 < n) (alike (λ w. cond (test w) 1 0)) some) in
    subst (λ (s : Seg). Contains (segments vs) s) (sym ((Decides-same_segs e v.0.seg).0 v.1.1)) (contains-map (λ (w : EdgeUse). w.seg) vs v.0 v.1.0)

pub alike_edges : (us vs : List EdgeUse) (edges : List Seg) (odd : List OddUse) → HaveSameElements us vs → AreEdges vs edges odd → AreEdges us edges odd
alike_edges us vs edges odd alike are = record {
  ascending = are.ascending;
  exact = λ e. (λ has. same_segments vs us (λ f. sym (alike f)) e ((are.exact e).0 has), λ used. (are.exact e).1 (same_segments us vs alike e used));
  pairs = record {
    ascending = are.pairs.ascending;
    exact = λ o. (
      λ has. (let is = (are.pairs.exact o).0 has in (is.0, (is.1.0, ap (λ n. n % 2) (times is.0 o.member) ∙ is.1.1))),
      λ is. (are.pairs.exact o).1 (is.0, (is.1.0, ap (λ n. n % 2) (sym (times is.0 o.member)) ∙ is.1.1)),
    );
  };
}
  where
    times : (e : Seg) (member : ℕ) → member_times e us member ≡ member_times e vs member
    times e member = alike (λ u. cond (is_same_use u (record { member = member; seg = e })) 1 0)

-- ---- a list that is made of pieces, one for each of its pairs

pub sum_of_pieces : {X Y : Type 0} (f : Y → ℕ) (pieces : X → List Y) (xs : List X) → sum_by f (flat_map pieces xs) ≡ sum_by (λ x. sum_by f (pieces x)) xs
sum_of_pieces f pieces [] = refl
sum_of_pieces f pieces (x ∷ xs) =
    sum_by-append f (pieces x) (flat_map pieces xs) ∙ ap (λ n. sum_by f (pieces x) + n) (sum_of_pieces f pieces xs) ∙ sym (sum_by-cons (λ y. sum_by f (pieces y)) x xs)

swap_mapped : {X Y : Type 0} (f : X → Y) (xs : List X) (i j : ℕ) → i < length xs → j < length xs → map f (swap xs i j) ≡ swap (map f xs) i j
swap_mapped f [] i j within inside = refl
swap_mapped f (x ∷ xs) i j within inside =
    let first = get_or-map f (x ∷ xs) i x (f x) within in
    let second = get_or-map f (x ∷ xs) j x (f x) inside in
    map-set f (set (x ∷ xs) i (get_or (x ∷ xs) j x)) j (get_or (x ∷ xs) i x)
    ∙ ap (λ ys. set ys j (f (get_or (x ∷ xs) i x))) (map-set f (x ∷ xs) i (get_or (x ∷ xs) j x))
    ∙ (λ k. set (set (f x ∷ map f xs) i (sym second k)) j (sym first k))

-- the firsts of pairs change places, and the seconds go with them
module _ {A B : Type 0} where
  pub record Follows (pairs : List (A × B)) (firsts : List A) : Type 0 where
    pub there : List (A × B)
    pub are : map (λ p. p.0) there ≡ firsts
    pub moved : IsPermutation pairs there

  in_place : {pairs : List (A × B)} (l : List A) (so_far : Follows pairs l) (i : ℕ) → i < length l → i < length so_far.there
  in_place l so_far i within = subst (λ n. i < n) (sym (ap length so_far.are) ∙ length-map so_far.there (λ p. p.0)) within

  pub follow : (pairs : List (A × B)) (firsts : List A) → IsPermutation (map (λ p. p.0) pairs) firsts → Follows pairs firsts
  follow pairs = IsPermutation-keeps (map (λ p. p.0) pairs) (Follows pairs) (record { there = pairs; are = refl; moved = IsPermutation-refl pairs })
      (λ l i j within inside so_far. record {
        there = swap so_far.there i j;
        are = swap_mapped (λ p. p.0) so_far.there i j (in_place l so_far i within) (in_place l so_far j inside) ∙ ap (λ ys. swap ys i j) so_far.are;
        moved = IsPermutation-trans pairs so_far.there (swap so_far.there i j) so_far.moved (IsPermutation-swap so_far.there (swap so_far.there i j) i j (in_place l so_far i within) (in_place l so_far j inside) refl);
      })

-- ---- two lists side by side, and their pairs

module _ {A B : Type 0} where
  pub firsts_of_zip : (R : A → B → Type 0) (xs : List A) (ys : List B) → AllZip R xs ys → map (λ p. p.0) (zip xs ys) ≡ xs
  firsts_of_zip R [] [] each = refl
  firsts_of_zip R [] (y ∷ ys) each = absurd each
  firsts_of_zip R (x ∷ xs) [] each = absurd each
  firsts_of_zip R (x ∷ xs) (y ∷ ys) each = ap (λ zs. x ∷ zs) (firsts_of_zip R xs ys each.1)

  pub zip_of_parts : (pairs : List (A × B)) → zip (map (λ p. p.0) pairs) (map (λ p. p.1) pairs) ≡ pairs
  zip_of_parts [] = refl
  zip_of_parts (p ∷ pairs) = ap (λ ps. p ∷ ps) (zip_of_parts pairs)

  pub each_of_zip : (R : A → B → Type 0) (xs : List A) (ys : List B) → AllZip R xs ys → All (λ p. R p.0 p.1) (zip xs ys)
  each_of_zip R [] ys each = λ k d within. absurd (omega arith)
  each_of_zip R (x ∷ xs) [] each = absurd each
  each_of_zip R (x ∷ xs) (y ∷ ys) each = All-cons (λ p. R p.0 p.1) (x, y) (zip xs ys) each.0 (each_of_zip R xs ys each.1)

  pub zip_of_each : (R : A → B → Type 0) (pairs : List (A × B)) → All (λ p. R p.0 p.1) pairs → AllZip R (map (λ p. p.0) pairs) (map (λ p. p.1) pairs)
  zip_of_each R [] all = tt
  zip_of_each R (p ∷ pairs) all = (all 0 p (omega arith), zip_of_each R pairs (λ k d within. all (suc k) d (omega arith)))
