-- The member with the longest owned border is the neighbour of a region, which depends on the owners of regions alone.
use mathlib.Core.List.{[], ◌∷◌}
use Rattle.std.proofs.Common.{◌≡◌, refl, sym, ◌∙◌, ap, ℕ, zero, suc, ◌+◌, ◌*◌, ◌<◌, ◌≤◌, ◌==◌, ◌&&◌, ◌||◌, Bool, true, false, not, cond, nat_lt, List, length, get_or, sum_by, Option, Some, None, inl, inr, arith}
use Rattle.std.specs.Prelude.{filter, slice_get}
use Rattle.std.specs.Cmp.{IsStrictWeakOrder}
use Rattle.std.specs.List.{IsFirstBest, list_all, enumerate_from}
use Rattle.std.proofs.lemmas.Bool.{and_parts, cases_eq}
use Rattle.std.proofs.lemmas.Bool.Decides.{nat_tests}
use Rattle.std.proofs.lemmas.List.{get_or_default}
use Rattle.std.proofs.lemmas.List.MinMax.{IsStrictWeakOrder-by_number, IsStrictWeakOrder-flip, IsFirstBest-unique}
use Rattle.std.proofs.lemmas.List.Sums.{sum_by-cons}
use Rattle.std.proofs.lemmas.Option.{slice_get-get_or, slice_get_within, get_or_from_slice_get}
use Rattle.cov_types.specs.declared.seg.Seg.{Seg}
use Rattle.plane.specs.Label.{numbers_below}
use Rattle.plane.specs.Length.{edge_length}
use Rattle.plane.specs.Region.{AreRegions}
use Rattle.arrangement.specs.Ascending.{ascend_by}
use Rattle.arrangement.specs.Measure.{is_member, is_border, owned_border}
use Rattle.arrangement.specs.Overlay.{Overlay, IsRegion, region_at, region_above, region_below, label_of}
use Rattle.arrangement.proofs.Ascending.{ascend_filter, numbers_ascend}
use Rattle.arrangement.proofs.LiveOverlays.{kept, kept_is, number_below, below_number}
use Rattle.region_owners.specs.Owner.{first_best, neighbours_of, neighbour_of}
use Rattle.region_owners.proofs.Picks.{first_best_is}
use Rattle.owner_label.proofs.Overlays.{answered_region}
use Rattle.cov_clean.specs.Longest.{IsLongest}

-- ---- lists that ascend

number_less : (m n : ℕ) → nat_lt m n ≡ true → m < n
number_less m n h = grind (arith, nat_tests)

less_number : (m n : ℕ) → m < n → nat_lt m n ≡ true
less_number m n h = grind (arith, nat_tests)

not_less : (m n : ℕ) → n ≤ m → nat_lt m n ≡ false
not_less m n h = grind (arith, nat_tests)

above_first : (x : ℕ) (xs : List ℕ) → list_all (λ y. nat_lt x y) xs ≡ true → (j d : ℕ) → j < length xs → x < get_or xs j d
above_first x [] h j d within = absurd (omega arith)
above_first x (y ∷ ys) h zero d within = number_less x y (and_parts _ _ h).0
above_first x (y ∷ ys) h (suc j) d within = above_first x ys (and_parts _ _ h).1 j d (omega arith)

ascends_at : (xs : List ℕ) → ascend_by (λ k. k) xs ≡ true → (i j d : ℕ) → i < j → j < length xs → get_or xs i d < get_or xs j d
ascends_at [] h i j d less within = absurd (omega arith)
ascends_at (x ∷ xs) h i zero d less within = absurd (omega arith)
ascends_at (x ∷ xs) h zero (suc j) d less within = above_first x xs (and_parts _ _ h).0 j d (omega arith)
ascends_at (x ∷ xs) h (suc i) (suc j) d less within = ascends_at xs (and_parts _ _ h).1 i j d (omega arith) (omega arith)

none_kept : (p : ℕ → Bool) (xs : List ℕ) → ((x : ℕ) → p x ≡ false) → filter p xs ≡ []
none_kept p [] h = refl
none_kept p (x ∷ xs) h = ap (λ (b : Bool). cond b (x ∷ filter p xs) (filter p xs)) (h x) ∙ none_kept p xs h

-- ---- the longest border

module _ (o : Overlay) (owners : ℕ → Option ℕ) (r : ℕ) where
  abbrev owned : ℕ → ℕ
  owned = owned_border o owners r

  abbrev those : List ℕ
  those = neighbours_of o owners r

  abbrev beats : ℕ → ℕ → Bool
  beats i j = nat_lt (owned j) (owned i)

  order : IsStrictWeakOrder beats
  order = IsStrictWeakOrder-flip (λ i j. nat_lt (owned i) (owned j)) (IsStrictWeakOrder-by_number (λ i. owned i))

  ascending : ascend_by (λ k. k) those ≡ true
  ascending = ascend_filter (λ k. k) (λ i. nat_lt 0 (owned i)) (numbers_below o.members) (numbers_ascend o.members)

  module _ (m : ℕ) (most : (i : ℕ) → owned i ≤ owned m) (least : (i : ℕ) → owned i ≡ owned m → m ≤ i) where
    less : (i : ℕ) → i < m → owned i < owned m
    less i before = elim (cases_eq (owned i) (owned m)) [
      | inl same ↦ (let h = least i same in absurd (omega arith))
      | inr other ↦ (let h = most i in omega (arith, other))
    ]

    best_at : (b : ℕ) → b < length those → get_or those b m ≡ m → IsFirstBest beats those (length those) b
    best_at b within at = (
      within,
      λ k d inside. ap (λ i. nat_lt (owned i) (owned (get_or those k d))) (here d) ∙ not_less (owned m) (owned (get_or those k d)) (most (get_or those k d)),
      λ k d before. ap (λ i. nat_lt (owned (get_or those k d)) (owned i)) (here d)
          ∙ less_number (owned (get_or those k d)) (owned m) (less (get_or those k d) (let h = ascends_at those ascending k b d before within in let e = here d in omega arith)),
    )
      where
        here : (d : ℕ) → get_or those b d ≡ m
        here d = get_or_default those b d m within ∙ at

    first_is : 0 < owned m → m < o.members → Some m ≡ neighbour_of o owners r
    first_is some below =
        let has = kept (λ i. nat_lt 0 (owned i)) (numbers_below o.members) m (number_below o.members m below) (less_number 0 (owned m) some) in
        let b = has.0 in
        let within : b < length those = has.1 in
        let best = best_at b within has.2 in
        let found = first_best_is beats order those (omega (arith, within)) in
        let same : first_best beats those ≡ b = IsFirstBest-unique order those (length those) (first_best beats those) b m found best in
        sym (ap (slice_get those) same ∙ slice_get-get_or those b m within ∙ ap (λ n. Some n) has.2)

  pub longest_is : (found : Option ℕ) → ((m : ℕ) → found ≡ Some m → m < o.members) → IsLongest owned found → found ≡ neighbour_of o owners r
  longest_is None below none = sym (ap (λ xs. slice_get xs (first_best beats xs)) (none_kept (λ i. nat_lt 0 (owned i)) (numbers_below o.members) (λ i. not_less 0 (owned i) (let h = none i in omega arith))))
  longest_is (Some m) below h = first_is m h.1 h.2 h.0 (below m refl)

  -- a neighbour is a member
  pub neighbour_below : (i : ℕ) → neighbour_of o owners r ≡ Some i → i < o.members
  neighbour_below i is =
      let k = first_best beats those in
      below_number o.members i (kept_is (λ j. nat_lt 0 (owned j)) (numbers_below o.members) i (k, slice_get_within those k i is, get_or_from_slice_get those k i i is)).0

-- ---- owners that are the same on regions

same_sum : (f g : ℕ × Seg → ℕ) (a : ℕ) (edges : List Seg) → ((k : ℕ) (e : Seg) → k < a + length edges → f (k, e) ≡ g (k, e)) → sum_by f (enumerate_from a edges) ≡ sum_by g (enumerate_from a edges)
same_sum f g a [] h = refl
same_sum f g a (e ∷ es) h =
    sum_by-cons f (a, e) (enumerate_from (a + 1) es) ∙ (λ i. h a e (omega arith) i + same_sum f g (a + 1) es (λ k d within. h k d (omega arith)) i) ∙ sym (sum_by-cons g (a, e) (enumerate_from (a + 1) es))

module _ (o : Overlay) (regions : AreRegions o.edges o.numbers) (f g : ℕ → Option ℕ) (same : (r : ℕ) → IsRegion o.edges r → f r ≡ g r) (r : ℕ) where
  region_is : (n : ℕ) → n < 2 * length o.edges → IsRegion o.edges (region_at o n)
  region_is n within = answered_region o.edges n (region_at o n) within (λ p at. regions.each n p at)

  pub owned_same : (i : ℕ) → owned_border o f r i ≡ owned_border o g r i
  owned_same i =
      let test : Option ℕ → ℕ → Bool = λ owner q. not (length (label_of o q) == 0) && is_member i owner in
      same_sum (λ p. cond (is_border o r (λ q. test (f q) q) p.0) (edge_length p.1) 0) (λ p. cond (is_border o r (λ q. test (g q) q) p.0) (edge_length p.1) 0) 0 o.edges
      (λ k e within. (
      let above = ap (λ owner. test owner (region_above o k)) (same (region_above o k) (region_is (2 * k) (omega arith))) in
      let below = ap (λ owner. test owner (region_below o k)) (same (region_below o k) (region_is (2 * k + 1) (omega arith))) in
      λ j. cond (((region_above o k == r) && below j) || ((region_below o k == r) && above j)) (edge_length e) 0))

  pub neighbour_same : neighbour_of o f r ≡ neighbour_of o g r
  neighbour_same = ap pick (λ j i. owned_same i j)
    where
      pick : (ℕ → ℕ) → Option ℕ
      pick lengths = (let those = filter (λ i. nat_lt 0 (lengths i)) (numbers_below o.members) in slice_get those (first_best (λ i j. nat_lt (lengths j) (lengths i)) those))
