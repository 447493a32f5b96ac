-- What a binary search finds in an ascending list.
use Rattle.std.proofs.Common.{◌≡◌, refl, sym, ◌∙◌, ap, subst, ℕ, ◌<◌, ◌≤◌, true, List, length, get_or, Result, Ok, Err, nat_cmp, is_lt, is_gt, Ordering, Less, Equal, Greater, true≢false, inl, inr, arith}
use Rattle.std.specs.Prelude.{AllPairs, Contains, IsTrue, ◌↔◌, is_ok}
use Rattle.std.specs.List.Sorted.{IsBinarySearchResult}
use Rattle.std.specs.Ordering.{ordering_index}
use Rattle.std.proofs.lemmas.Bool.{cases_lt, false≢true}
use Rattle.std.proofs.lemmas.List.{get_or_default}
use Rattle.std.proofs.lemmas.List.Sorted.{searched}
use Rattle.cov_types.proofs.SegOrder.{is_lt-seg_cmp, is_gt-seg_cmp, is_seg_before-irrefl, is_seg_before-trans, same_segs_from_neither}
use Rattle.cov_types.specs.Seg.{seg_cmp, is_seg_before}
use Rattle.cov_types.specs.declared.seg.Seg.{Seg}
use Rattle.arrangement.specs.Noding.{IsAscending}

-- ---- numbers

rising : (xs : List ℕ) → AllPairs (λ (m n : ℕ). m < n) xs → (i j : ℕ) → i ≤ j → j < length xs → get_or xs i 0 ≤ get_or xs j 0
rising xs up i j le within = elim (cases_lt i j) [
  | inl less ↦ (let h = up i j 0 less within in omega (arith, h))
  | inr past ↦ (let same : i ≡ j = omega arith in omega (arith, ap (λ k. get_or xs k 0) same))
]

pub number_found : (xs : List ℕ) (n : ℕ) → AllPairs (λ (m n : ℕ). m < n) xs → (r : Result ℕ ℕ) → IsBinarySearchResult (λ y. nat_cmp y n) xs r → IsTrue (is_ok r) ↔ Contains xs n
number_found xs n up (Ok i) h =
    let at = searched xs n (Ok i) h (rising xs up) in (
      (λ t. (i, at.0, get_or_default xs i n 0 at.0 ∙ at.1)),
      (λ has. refl),
    )
number_found xs n up (Err i) h =
    let parted = searched xs n (Err i) h (rising xs up) in (
      (λ t. absurd (false≢true t)),
      (λ has. (
          let k = has.0 in
          let is : get_or xs k 0 ≡ n = get_or_default xs k 0 n has.1 ∙ has.2 in
          elim (cases_lt k i) [
            | inl less ↦ (let low = parted.1 k less in absurd (omega (arith, low, is)))
            | inr past ↦ (let high = parted.2 k past has.1 in absurd (omega (arith, high, is)))
          ])),
    )

-- ---- segments

-- the answers of comparing with s rise along segments that ascend
greater_is : (o : Ordering) → is_gt o ≡ true → ordering_index o ≡ 2
greater_is Less h = absurd (false≢true h)
greater_is Equal h = absurd (false≢true h)
greater_is Greater h = refl

at_most : (o : Ordering) → ordering_index o ≤ 2
at_most Less = omega arith
at_most Equal = omega arith
at_most Greater = omega arith

module _ (a b s : Seg) (before : IsTrue (is_seg_before a b)) where
  past : IsTrue (is_seg_before s b) → ordering_index (seg_cmp a s) ≤ ordering_index (seg_cmp b s)
  past h =
      let top = greater_is (seg_cmp b s) (is_gt-seg_cmp b s ∙ h) in
      let low = at_most (seg_cmp a s) in
      omega (arith, top, low)

  rises : ordering_index (seg_cmp a s) ≤ ordering_index (seg_cmp b s)
  rises = by (seg_cmp a s) refl
    where
      by : (o : Ordering) → seg_cmp a s ≡ o → ordering_index (seg_cmp a s) ≤ ordering_index (seg_cmp b s)
      by Less is = let none = ap ordering_index is in omega (arith, none)
      by Equal is =
          let same : a ≡ s = same_segs_from_neither a s (sym (is_lt-seg_cmp a s) ∙ ap is_lt is) (sym (is_gt-seg_cmp a s) ∙ ap is_gt is) in
          past (subst (λ t. IsTrue (is_seg_before t b)) same before)
      by Greater is = past (is_seg_before-trans s a b (sym (is_gt-seg_cmp a s) ∙ ap is_gt is) before)

rising_segs : (xs : List Seg) (s : Seg) → IsAscending xs → (i j : ℕ) (d : Seg) → i ≤ j → j < length xs → ordering_index (seg_cmp (get_or xs i d) s) ≤ ordering_index (seg_cmp (get_or xs j d) s)
rising_segs xs s up i j d le within = elim (cases_lt i j) [
  | inl less ↦ rises (get_or xs i d) (get_or xs j d) s (up i j d less within)
  | inr past ↦ (let same : i ≡ j = omega arith in omega (arith, ap (λ k. ordering_index (seg_cmp (get_or xs k d) s)) same))
]

pub segment_found : (xs : List Seg) (s : Seg) → IsAscending xs → (r : Result ℕ ℕ) → ((i : ℕ) → r ≡ Ok i → i < length xs) → IsBinarySearchResult (λ y. seg_cmp y s) xs r → IsTrue (is_ok r) ↔ Contains xs s
segment_found xs s up (Ok i) bound h = (
  (λ t. (i, bound i refl, same_segs_from_neither (get_or xs i s) s (sym (is_lt-seg_cmp (get_or xs i s) s) ∙ ap is_lt (h s)) (sym (is_gt-seg_cmp (get_or xs i s) s) ∙ ap is_gt (h s)))),
  (λ has. refl),
)
segment_found xs s up (Err i) bound h =
    let parted = h (rising_segs xs s up) in (
      (λ t. absurd (false≢true t)),
      (λ has. elim (cases_lt has.0 i) [
        | inl less ↦ absurd (true≢false (sym (ap is_lt (ap (λ t. seg_cmp t s) (sym has.2) ∙ parted.0 has.0 s (omega arith) less)) ∙ is_lt-seg_cmp s s ∙ is_seg_before-irrefl s))
        | inr past ↦ absurd (true≢false (sym (ap is_gt (ap (λ t. seg_cmp t s) (sym has.2) ∙ parted.1 has.0 s past has.1)) ∙ is_gt-seg_cmp s s ∙ is_seg_before-irrefl s))
      ]),
    )
