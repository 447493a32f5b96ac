-- The loop over sorted segments in which two that are equal cancel.
use mathlib.Core.List.{[], ◌∷◌}
use Rattle.std.proofs.Common.{◌≡◌, inl, inr, sym, ◌∙◌, ap, subst, ℕ, ◌+◌, ◌-◌, ◌<◌, ◌≤◌, ◌%◌, ◌↔◌, Bool, false, Decides, List, ◌++◌, length, get_or, take, IsTrue, IsSorted, is_lt, arith}
use Rattle.std.specs.Prelude.{Contains}
use Rattle.std.proofs.lemmas.List.{take_more, take_all, take_at, length-take, get_or-take, get_or_default, get_or_append_left, length-append}
use Rattle.std.proofs.lemmas.List.Elements.{Contains-append_left, Contains-push, Contains-push_cases, Contains-get_or}
use Rattle.std.proofs.lemmas.List.Quantifiers.{all_pairs_push}
use Rattle.std.proofs.lemmas.List.Sorted.{ranks_by, sorted_far}
use Rattle.std.specs.Cmp.{IsStrictWeakOrder}
use Rattle.std.proofs.Math.Seq.{get_or-append_seam}
use Rattle.arrangement.specs.Noding.{IsAscending}
use Rattle.cov_types.proofs.Equal.{Decides-same_segs}
use Rattle.cov_types.proofs.SegOrder.{seg_cmp_total, is_lt-seg_cmp, is_seg_before-irrefl, same_segs_from_neither}
use Rattle.cov_types.specs.Seg.{is_seg_before, seg_cmp}
use Rattle.cov_types.specs.declared.seg.Seg.{Seg}
use Rattle.crossing_laws.specs.Across.{is_same_seg, times}
use Rattle.snap_noder.specs.Places.{EndsWith}
use Rattle.cov_union.proofs.Lasts.{not_both, not_there, all_before}
use Rattle.cov_union.proofs.Times.{same_or_not, times_push_same, times_push_other, odd_has}

abbrev pub is_seg : Seg → Seg → Bool
is_seg s e = is_same_seg e s

pub Decides-is_seg : (s e : Seg) → Decides (is_seg s e) (s ≡ e)
Decides-is_seg s e = (λ h. sym ((Decides-same_segs e s).0 h), λ h. (Decides-same_segs e s).1 (sym h))

seg_weak : IsStrictWeakOrder (λ (s t : Seg). is_lt (seg_cmp s t))
seg_weak = ranks_by seg_cmp_total (λ (s : Seg). s)

-- odd has the segments that stand an odd number of times in the list, ascending
pub record AreOddSegments (sorted odd : List Seg) : Type 0 where
  pub exact : (o : Seg) → Contains odd o ↔ (times o sorted % 2 ≡ 1)
  pub ascending : IsAscending odd

pub odd_segments_start : (odd : List Seg) → odd ≡ [] → AreOddSegments [] odd
odd_segments_start odd empty = subst (AreOddSegments []) (sym empty) (record {
  exact = λ o. (λ (k, within, is). absurd (omega arith), λ h. absurd (omega arith));
  ascending = λ i j d before within. absurd (omega arith);
})

pub odd_segments_all : (sorted odd : List Seg) (i : ℕ) → length sorted ≤ i → AreOddSegments (take i sorted) odd → AreOddSegments sorted odd
odd_segments_all sorted odd i past h = subst (λ (xs : List Seg). AreOddSegments xs odd) (take_all i sorted past) h

-- x is the segment at i
module _ (sorted odd : List Seg) (i : ℕ) (x : Seg) (within : i < length sorted) (is : x ≡ get_or sorted i x) (in_order : IsSorted seg_cmp sorted) (h : AreOddSegments (take i sorted) odd) where
  longer : take i sorted ++ x ∷ [] ≡ take (i + 1) sorted
  longer = ap (λ (u : Seg). take i sorted ++ u ∷ []) is ∙ sym (take_more sorted i x within)

  -- x does not come before one that is kept
  not_after : (o : Seg) → Contains odd o → is_seg_before x o ≡ false
  not_after o kept =
      let earlier = odd_has is_seg Decides-is_seg o (take i sorted) ((h.exact o).0 kept) in
      let k = earlier.0 in
      let inside = earlier.1 in
      let short = length-take i sorted in
      let first : k < i = omega arith in
      let there : get_or sorted k o ≡ o = sym (get_or-take i sorted k o first) ∙ earlier.2 in
      let here : get_or sorted i o ≡ x = get_or_default sorted i o x within ∙ sym is in
      sym (is_lt-seg_cmp x o) ∙ (λ j. is_lt (seg_cmp (sym here j) (sym there j))) ∙ sorted_far (λ (p q : Seg). is_lt (seg_cmp p q)) seg_weak sorted in_order k i o (omega arith) within

  -- ---- x is the last that is kept: it goes

  module _ (front : List Seg) (ends : odd ≡ front ++ x ∷ []) where
    ascending_split : IsAscending (front ++ x ∷ [])
    ascending_split = subst IsAscending ends h.ascending

    -- and it is not there twice
    once : ¬ Contains front x
    once (k, inside, at) =
        let long = length-append front (x ∷ []) in
        not_both (is_seg_before x x)
        (subst (λ (u : Seg). IsTrue (is_seg_before x u)) (get_or-append_seam front x [] x)
        (subst (λ (u : Seg). IsTrue (is_seg_before u (get_or (front ++ x ∷ []) (length front) x))) (get_or_append_left front (x ∷ []) x k inside ∙ at) (ascending_split k (length front) x inside (omega arith))))
        (is_seg_before-irrefl x)

    whole : (o : Seg) → Contains (front ++ x ∷ []) o ↔ (times o (take i sorted) % 2 ≡ 1)
    whole o = subst (λ (xs : List Seg). Contains xs o ↔ (times o (take i sorted) % 2 ≡ 1)) ends (h.exact o)

    gone_exact : (o : Seg) → Contains front o ↔ (times o (take i sorted ++ x ∷ []) % 2 ≡ 1)
    gone_exact o =
        elim (same_or_not is_seg Decides-is_seg x o) [
          | inl same ↦ (
              let here : Contains (front ++ x ∷ []) o = subst (λ (u : Seg). Contains (front ++ x ∷ []) u) same (Contains-push front x) in
              let now = (whole o).0 here in
              let more : times o (take i sorted ++ x ∷ []) ≡ times o (take i sorted) + 1 =
              subst (λ (u : Seg). times u (take i sorted ++ x ∷ []) ≡ times u (take i sorted) + 1) same (times_push_same is_seg Decides-is_seg x (take i sorted)) in
              (λ kept. absurd (once (subst (λ (u : Seg). Contains front u) (sym same) kept)), λ odd_now. absurd (omega arith)))
          | inr other ↦ (
              let more = times_push_other is_seg Decides-is_seg o x (take i sorted) other in (
                λ kept. ap (λ n. n % 2) more ∙ (whole o).0 (Contains-append_left front (x ∷ []) o kept),
                λ odd_now. elim (Contains-push_cases front x o ((whole o).1 (ap (λ n. n % 2) (sym more) ∙ odd_now))) [ inl kept ↦ kept | inr same ↦ absurd (other same) ],
              ))
        ]

    shorter : take (length odd - 1) odd ≡ front
    shorter = ap (λ (xs : List Seg). take (length xs - 1) xs) ends ∙ take_at front (x ∷ []) _ (let long = length-append front (x ∷ []) in omega arith)

    gone : (after : List Seg) → after ≡ front → AreOddSegments (take (i + 1) sorted) after
    gone after same =
        subst (AreOddSegments (take (i + 1) sorted)) (sym same) (subst (λ (xs : List Seg). AreOddSegments xs front) longer (record {
          exact = gone_exact;
          ascending = λ j k d before inside.
              let long = length-append front (x ∷ []) in
              subst (λ (u : Seg). IsTrue (is_seg_before u (get_or front k d))) (get_or_append_left front (x ∷ []) d j (omega arith))
              (subst (λ (u : Seg). IsTrue (is_seg_before (get_or (front ++ x ∷ []) j d) u)) (get_or_append_left front (x ∷ []) d k inside) (ascending_split j k d before (omega arith)));
        }))

    pub odd_segment_gone : (after : List Seg) → after ≡ take (length odd - 1) odd → AreOddSegments (take (i + 1) sorted) after
    odd_segment_gone after popped = gone after (popped ∙ shorter)

  -- ---- x is not the last: it is not there, and comes

  module _ (not_last : ¬ EndsWith odd x) where
    absent : ¬ Contains odd x
    absent = not_there is_seg_before same_segs_from_neither odd x h.ascending not_after not_last

    before_x : (o : Seg) → Contains odd o → IsTrue (is_seg_before o x)
    before_x = all_before is_seg_before same_segs_from_neither odd x h.ascending not_after not_last

    even : ¬ (times x (take i sorted) % 2 ≡ 1)
    even odd_now = absent ((h.exact x).1 odd_now)

    come_exact : (o : Seg) → Contains (odd ++ x ∷ []) o ↔ (times o (take i sorted ++ x ∷ []) % 2 ≡ 1)
    come_exact o =
        elim (same_or_not is_seg Decides-is_seg x o) [
          | inl same ↦ subst (λ (u : Seg). Contains (odd ++ x ∷ []) u ↔ (times u (take i sorted ++ x ∷ []) % 2 ≡ 1)) same
              (let more = times_push_same is_seg Decides-is_seg x (take i sorted) in let none = even in (λ _. omega arith, λ _. Contains-push odd x))
          | inr other ↦ (
              let more = times_push_other is_seg Decides-is_seg o x (take i sorted) other in (
                λ kept. ap (λ n. n % 2) more ∙ (h.exact o).0 (elim (Contains-push_cases odd x o kept) [ inl there ↦ there | inr same ↦ absurd (other same) ]),
                λ odd_now. Contains-append_left odd (x ∷ []) o ((h.exact o).1 (ap (λ n. n % 2) (sym more) ∙ odd_now)),
              ))
        ]

    pub odd_segment_come : (after : List Seg) → after ≡ odd ++ x ∷ [] → AreOddSegments (take (i + 1) sorted) after
    odd_segment_come after pushed =
        subst (AreOddSegments (take (i + 1) sorted)) (sym pushed) (subst (λ (xs : List Seg). AreOddSegments xs (odd ++ x ∷ [])) longer (record {
          exact = come_exact;
          ascending = all_pairs_push (λ o p. IsTrue (is_seg_before o p)) odd x h.ascending (λ k d inside. before_x (get_or odd k d) (Contains-get_or odd k d inside));
        }))
