-- Boxes along a curve: how their order is made, and that a query of their tree gives the numbers of the boxes that touch, ascending.
use Rattle.std.proofs.Common.{pos, ◌≡◌, sym, ◌∙◌, ap, subst, ℕ, ◌+◌, ◌<◌, ◌≤◌, Bool, List, [], ◌∷◌, ◌++◌, length, get_or, map, take, All, Contains, IsPermutation, IsSorted, Some, nat_cmp, eqb, arith, inl, inr}
use Rattle.std.specs.Prelude.{AllPairs, slice_get}
use Rattle.std.specs.Cmp.{nat_eq_equiv}
use Rattle.std.proofs.lemmas.Bool.{cases_lt}
use Rattle.std.proofs.lemmas.Bool.Decides.{Decides-eqb}
use Rattle.std.proofs.lemmas.List.{length-map, map-append, take_more, take_all, get_or-map, get_or_default}
use Rattle.std.proofs.lemmas.List.Elements.{All-nil, All-push, Contains-push, Contains-append_left, Contains-get_or}
use Rattle.std.proofs.lemmas.List.Kept.{AllPairs-from_increasing}
use Rattle.std.proofs.lemmas.List.Quantifiers.{all_pairs_push}
use Rattle.std.proofs.lemmas.List.Sorted.{All-permutation, Contains-permutation, IsPermutation-map, IsPermutation-sym, IsNonDecreasingBy-from_sort}
use Rattle.std.proofs.lemmas.Map.Keys.{IsDistinct-IsPermutation, IsStrictlyIncreasing-from_distinct}
use Rattle.std.proofs.lemmas.Map.Made.{AllPairs-from_IsDistinct, IsDistinct-from_AllPairs}
use Rattle.std.proofs.lemmas.Option.{slice_get-get_or, slice_get_within}
use Rattle.box_tree.proofs.PlaceLaws.{place_in, place_below, places_ascend}
use Rattle.box_tree.specs.Places.{places}
use Rattle.box_tree.specs.Rect.{box_of_point}
use Rattle.box_tree.specs.declared.rect.Rect.{Rect}
use Rattle.cov_valid.proofs.Ascending.{same_ascending}
use Rattle.cov_valid.specs.RingTree.{AreFirstNumbers, AreMovedBoxes}

-- ---- numbers that differ

-- they differ in another order too
apart_permuted : (xs ys : List ℕ) → IsPermutation xs ys → AllPairs (λ m n. ¬ (m ≡ n)) xs → AllPairs (λ m n. ¬ (m ≡ n)) ys
apart_permuted xs ys moved apart =
    AllPairs-from_IsDistinct Decides-eqb ys (IsDistinct-IsPermutation eqb nat_eq_equiv.symm xs ys moved (IsDistinct-from_AllPairs Decides-eqb xs apart))

-- sorted, they ascend
apart_sorted : (xs ys : List ℕ) → IsPermutation xs ys → IsSorted nat_cmp ys → AllPairs (λ m n. ¬ (m ≡ n)) xs → AllPairs (λ m n. m < n) ys
apart_sorted xs ys moved ordered apart =
    AllPairs-from_increasing ys
    (IsStrictlyIncreasing-from_distinct ys (IsNonDecreasingBy-from_sort (λ (n : ℕ). n) ys ordered) (IsDistinct-from_AllPairs Decides-eqb ys (apart_permuted xs ys moved apart)))

-- ---- the numbers along the curve

abbrev pub numbers_of : List (ℕ × ℕ) → List ℕ
numbers_of keyed = map (λ p. p.1) keyed

pub first_none : (keyed : List (ℕ × ℕ)) → keyed ≡ [] → AreFirstNumbers 0 (numbers_of keyed)
first_none keyed is = subst (λ (ks : List (ℕ × ℕ)). AreFirstNumbers 0 (numbers_of ks)) (sym is)
    (record { within = All-nil (λ (n : ℕ). n < 0); each = λ n lt. absurd (omega (arith, lt)); once = λ i j d lt below. absurd (omega (arith, below)) })

first_push : (count : ℕ) (order : List ℕ) → AreFirstNumbers count order → AreFirstNumbers (count + 1) (order ++ count ∷ [])
first_push count order so_far = record {
  within = All-push (λ (n : ℕ). n < count + 1) order count (λ i d lt. (let old = so_far.within i d lt in omega (arith, old))) (omega arith);
  each = λ n lt. elim (cases_lt n count) [
    | inl early ↦ Contains-append_left order (count ∷ []) n (so_far.each n early)
    | inr late ↦ (let last : count ≡ n = omega (arith, lt, late) in subst (λ m. Contains (order ++ count ∷ []) m) last (Contains-push order count))
  ];
  once = all_pairs_push (λ (m n : ℕ). ¬ (m ≡ n)) order count so_far.once (λ k d lt same. (let old = so_far.within k d lt in omega (arith, old, same)));
}

pub first_more : (count key : ℕ) (keyed after : List (ℕ × ℕ)) → after ≡ keyed ++ (key, count) ∷ [] → AreFirstNumbers count (numbers_of keyed) → AreFirstNumbers (count + 1) (numbers_of after)
first_more count key keyed after is so_far = subst (AreFirstNumbers (count + 1))
    (sym (ap numbers_of is ∙ map-append (λ (p : ℕ × ℕ). p.1) keyed ((key, count) ∷ []))) (first_push count (numbers_of keyed) so_far)

pub first_sorted : (count n : ℕ) (made sorted : List (ℕ × ℕ)) (order : List ℕ) → n ≡ count → AreFirstNumbers n (numbers_of made) → IsPermutation made sorted → order ≡ numbers_of sorted → AreFirstNumbers count order
first_sorted count n made sorted order all so_far moved is =
    let permuted : IsPermutation (numbers_of made) order = subst (λ (xs : List ℕ). IsPermutation (numbers_of made) xs) (sym is) (IsPermutation-map (λ (p : ℕ × ℕ). p.1) made sorted moved) in
    let first : AreFirstNumbers count (numbers_of made) = subst (λ k. AreFirstNumbers k (numbers_of made)) all so_far in
    record {
      within = All-permutation (λ (m : ℕ). m < count) (numbers_of made) order permuted first.within;
      each = λ m lt. Contains-permutation (numbers_of made) order m permuted (first.each m lt);
      once = apart_permuted (numbers_of made) order permuted first.once;
    }

-- ---- what a loop reads at some numbers

-- the list has the element at each number, for each of the first so many numbers
module _ {X : Type 0} where
  abbrev pub AreReadTo : List X → List ℕ → ℕ → List X → Type 0
  AreReadTo xs ns i read = (d : X) → read ≡ map (λ n. get_or xs n d) (take i ns)

  pub read_none : (xs : List X) (ns : List ℕ) (read : List X) → read ≡ [] → AreReadTo xs ns 0 read
  read_none xs ns read is d = is

  pub read_more : (xs : List X) (ns : List ℕ) (i : ℕ) (x : X) (read after : List X) → i < length ns → get_or ns i 0 < length xs → x ≡ get_or xs (get_or ns i 0) x → after ≡ read ++ x ∷ [] → AreReadTo xs ns i read
      → AreReadTo xs ns (i + 1) after
  read_more xs ns i x read after inside within at pushed so_far d =
      let same : x ≡ get_or xs (get_or ns i 0) d = at ∙ get_or_default xs (get_or ns i 0) x d within in
      pushed ∙ (λ j. so_far d j ++ same j ∷ []) ∙ sym (map-append (λ n. get_or xs n d) (take i ns) (get_or ns i 0 ∷ [])) ∙ ap (map (λ n. get_or xs n d)) (sym (take_more ns i 0 inside))

  pub read_all : (xs : List X) (ns : List ℕ) (i : ℕ) (read : List X) → length ns ≤ i → AreReadTo xs ns i read → (d : X) → read ≡ map (λ n. get_or xs n d) ns
  read_all xs ns i read past so_far d = so_far d ∙ ap (map (λ n. get_or xs n d)) (take_all i ns past)

-- ---- a query

no_box : Rect
no_box = box_of_point (record { x = pos 0; y = pos 0 })

module _ (boxes : List Rect) (order : List ℕ) (moved : List Rect) (along : AreMovedBoxes boxes order moved) where
  long_as : length moved ≡ length order
  long_as = ap length (along.moved_boxes no_box) ∙ length-map order (λ n. get_or boxes n no_box)

  -- at a place there is the box of the number there
  box_at : (k : ℕ) → k < length order → slice_get moved k ≡ slice_get boxes (get_or order k 0)
  box_at k inside =
      let n : ℕ = get_or order k 0 in
      slice_get-get_or moved k no_box (omega (arith, inside, long_as))
      ∙ ap Some (ap (λ (bs : List Rect). get_or bs k no_box) (along.moved_boxes no_box) ∙ get_or-map (λ m. get_or boxes m no_box) order k 0 no_box inside)
      ∙ sym (slice_get-get_or boxes n no_box (along.numbers.within k 0 inside))

  module _ (test : Rect → Bool) where
    -- each place that is found is one of the order
    pub found_inside : All (λ k. k < length order) (places test 0 moved)
    found_inside i d lt = omega (arith, place_below test moved i d lt, long_as)

    abbrev met : List ℕ
    met = map (λ k. get_or order k 0) (places test 0 moved)

    met_at : (i d e : ℕ) → i < length (places test 0 moved) → get_or met i e ≡ get_or order (get_or (places test 0 moved) i d) 0
    met_at i d e lt = get_or-map (λ k. get_or order k 0) (places test 0 moved) i d e lt

    long_met : length met ≡ length (places test 0 moved)
    long_met = length-map (places test 0 moved) (λ k. get_or order k 0)

    -- no number is met twice
    met_apart : AllPairs (λ m n. ¬ (m ≡ n)) met
    met_apart i j d lt within same =
        let inside : j < length (places test 0 moved) = omega (arith, within, long_met) in
        let before : i < length (places test 0 moved) = omega (arith, lt, inside) in
        along.numbers.once (get_or (places test 0 moved) i 0) (get_or (places test 0 moved) j 0) 0
        (places_ascend test 0 moved i j 0 lt inside) (found_inside j 0 inside)
        (sym (met_at i 0 d before) ∙ same ∙ met_at j 0 d inside)

    -- what is met passes
    met_passes : (n : ℕ) → Contains met n → Contains (places test 0 boxes) n
    met_passes n (i, lt, at) =
        let inside : i < length (places test 0 moved) = omega (arith, lt, long_met) in
        let k : ℕ = get_or (places test 0 moved) i 0 in
        let (b, stands, passes) = (place_in test moved k).0 (Contains-get_or (places test 0 moved) i 0 inside) in
        let here : get_or order k 0 ≡ n = sym (met_at i 0 n inside) ∙ at in
        subst (Contains (places test 0 boxes)) here
        ((place_in test boxes (get_or order k 0)).1 (b, sym (box_at k (found_inside i 0 inside)) ∙ stands, passes))

    -- what passes is met
    passes_met : (n : ℕ) → Contains (places test 0 boxes) n → Contains met n
    passes_met n h =
        let (b, stands, passes) = (place_in test boxes n).0 h in
        let (k, inside, at) = along.numbers.each n (slice_get_within boxes n b stands) in
        let here : get_or order k 0 ≡ n = get_or_default order k 0 n inside ∙ at in
        let (i, lt, at_k) = (place_in test moved k).1 (b, box_at k inside ∙ ap (slice_get boxes) here ∙ stands, passes) in
        let is : get_or met i 0 ≡ n = met_at i k 0 lt ∙ ap (λ m. get_or order m 0) at_k ∙ here in
        subst (Contains met) is (Contains-get_or met i 0 (omega (arith, lt, long_met)))

    -- sorted, the numbers that are met are those of the boxes that pass
    pub met_sorted : (read sorted : List ℕ) → read ≡ met → IsPermutation read sorted → IsSorted nat_cmp sorted → sorted ≡ places test 0 boxes
    met_sorted read sorted is moves ordered =
        let permuted : IsPermutation met sorted = subst (λ (ns : List ℕ). IsPermutation ns sorted) is moves in
        same_ascending (λ (n : ℕ). n) sorted (places test 0 boxes) (apart_sorted met sorted permuted ordered met_apart) (places_ascend test 0 boxes)
        (λ n h. met_passes n (Contains-permutation sorted met n (IsPermutation-sym met sorted permuted) h))
        (λ n h. Contains-permutation met sorted n permuted (passes_met n h))
