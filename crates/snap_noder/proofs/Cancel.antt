-- The loop over sorted pairs in which two that are equal cancel.
use mathlib.Core.List.{[], ◌∷◌}
use Rattle.std.proofs.Common.{◌≡◌, inl, inr, sym, ◌∙◌, ap, subst, ℕ, ◌+◌, ◌-◌, ◌<◌, ◌≤◌, ◌%◌, ◌↔◌, false, List, ◌++◌, length, get_or, take, IsTrue, IsSorted, is_lt, arith}
use Rattle.std.specs.Prelude.{Contains}
use Rattle.std.proofs.lemmas.List.{take_more, take_all, take_at, length-take, get_or-take, get_or_default, get_or_append_left, length-append}
use Rattle.std.proofs.lemmas.List.Elements.{Contains-append_left, Contains-push, Contains-push_cases, Contains-get_or}
use Rattle.std.proofs.lemmas.List.Quantifiers.{all_pairs_push}
use Rattle.std.proofs.lemmas.List.Sorted.{sorted_far}
use Rattle.std.proofs.Math.Seq.{get_or-append_seam}
use Rattle.arrangement.specs.declared.odd_use.OddUse.{OddUse}
use Rattle.arrangement.specs.Noding.{is_odd_before}
use Rattle.snap_noder.specs.Order.{odd_cmp, AreOddAscending}
use Rattle.snap_noder.specs.Places.{odd_times, EndsWith}
use Rattle.snap_noder.proofs.OddOrder.{is_same_odd, Decides-same_odds, odd_weak, is_lt-odd_cmp, odds_from_neither, is_odd_before-irrefl}
use Rattle.snap_noder.proofs.Lasts.{not_both, not_there, all_before}
use Rattle.snap_noder.proofs.Times.{same_or_not, times_push_same, times_push_other, odd_has}

-- odd has the pairs that stand an odd number of times in the list, ascending
pub record AreOddOnes (sorted odd : List OddUse) : Type 0 where
  pub exact : (o : OddUse) → Contains odd o ↔ (odd_times o sorted % 2 ≡ 1)
  pub ascending : AreOddAscending odd

pub odd_start : (odd : List OddUse) → odd ≡ [] → AreOddOnes [] odd
odd_start odd empty = subst (AreOddOnes []) (sym empty) (record {
  exact = λ o. (λ (k, within, is). absurd (omega arith), λ h. absurd (omega arith));
  ascending = λ i j d before within. absurd (omega arith);
})

pub odd_all : (sorted odd : List OddUse) (i : ℕ) → length sorted ≤ i → AreOddOnes (take i sorted) odd → AreOddOnes sorted odd
odd_all sorted odd i past h = subst (λ (xs : List OddUse). AreOddOnes xs odd) (take_all i sorted past) h

-- x is the pair at i
module _ (sorted odd : List OddUse) (i : ℕ) (x : OddUse) (within : i < length sorted) (is : x ≡ get_or sorted i x) (in_order : IsSorted odd_cmp sorted) (h : AreOddOnes (take i sorted) odd) where
  longer : take i sorted ++ x ∷ [] ≡ take (i + 1) sorted
  longer = ap (λ (u : OddUse). take i sorted ++ u ∷ []) is ∙ sym (take_more sorted i x within)

  -- x does not come before one that is kept
  not_after : (o : OddUse) → Contains odd o → is_odd_before x o ≡ false
  not_after o kept =
      let earlier = odd_has is_same_odd Decides-same_odds o (take i sorted) ((h.exact o).0 kept) in
      let k = earlier.0 in
      let inside = earlier.1 in
      let short = length-take i sorted in
      let first : k < i = omega arith in
      let there : get_or sorted k o ≡ o = sym (get_or-take i sorted k o first) ∙ earlier.2 in
      let here : get_or sorted i o ≡ x = get_or_default sorted i o x within ∙ sym is in
      sym (is_lt-odd_cmp x o) ∙ (λ j. is_lt (odd_cmp (sym here j) (sym there j))) ∙ sorted_far (λ (p q : OddUse). is_lt (odd_cmp p q)) odd_weak sorted in_order k i o (omega arith) within

  -- ---- x is the last that is kept: it goes

  module _ (front : List OddUse) (ends : odd ≡ front ++ x ∷ []) where
    ascending_split : AreOddAscending (front ++ x ∷ [])
    ascending_split = subst AreOddAscending ends h.ascending

    -- and it is not there twice
    once : ¬ Contains front x
    once (k, inside, at) =
        let long = length-append front (x ∷ []) in
        not_both (is_odd_before x x)
        (subst (λ (u : OddUse). IsTrue (is_odd_before x u)) (get_or-append_seam front x [] x)
        (subst (λ (u : OddUse). IsTrue (is_odd_before u (get_or (front ++ x ∷ []) (length front) x))) (get_or_append_left front (x ∷ []) x k inside ∙ at) (ascending_split k (length front) x inside (omega arith))))
        (is_odd_before-irrefl x)

    whole : (o : OddUse) → Contains (front ++ x ∷ []) o ↔ (odd_times o (take i sorted) % 2 ≡ 1)
    whole o = subst (λ (xs : List OddUse). Contains xs o ↔ (odd_times o (take i sorted) % 2 ≡ 1)) ends (h.exact o)

    gone_exact : (o : OddUse) → Contains front o ↔ (odd_times o (take i sorted ++ x ∷ []) % 2 ≡ 1)
    gone_exact o =
        elim (same_or_not is_same_odd Decides-same_odds x o) [
          | inl same ↦ (
              let here : Contains (front ++ x ∷ []) o = subst (λ (u : OddUse). Contains (front ++ x ∷ []) u) same (Contains-push front x) in
              let now = (whole o).0 here in
              let more : odd_times o (take i sorted ++ x ∷ []) ≡ odd_times o (take i sorted) + 1 =
              subst (λ (u : OddUse). odd_times u (take i sorted ++ x ∷ []) ≡ odd_times u (take i sorted) + 1) same (times_push_same is_same_odd Decides-same_odds x (take i sorted)) in
              (λ kept. absurd (once (subst (λ (u : OddUse). Contains front u) (sym same) kept)), λ odd_now. absurd (omega arith)))
          | inr other ↦ (
              let more = times_push_other is_same_odd Decides-same_odds o x (take i sorted) other in (
                λ kept. ap (λ n. n % 2) more ∙ (whole o).0 (Contains-append_left front (x ∷ []) o kept),
                λ odd_now. elim (Contains-push_cases front x o ((whole o).1 (ap (λ n. n % 2) (sym more) ∙ odd_now))) [ inl kept ↦ kept | inr same ↦ absurd (other same) ],
              ))
        ]

    shorter : take (length odd - 1) odd ≡ front
    shorter = ap (λ (xs : List OddUse). take (length xs - 1) xs) ends ∙ take_at front (x ∷ []) _ (let long = length-append front (x ∷ []) in omega arith)

    gone : (after : List OddUse) → after ≡ front → AreOddOnes (take (i + 1) sorted) after
    gone after same =
        subst (AreOddOnes (take (i + 1) sorted)) (sym same) (subst (λ (xs : List OddUse). AreOddOnes xs front) longer (record {
          exact = gone_exact;
          ascending = λ j k d before inside.
              let long = length-append front (x ∷ []) in
              subst (λ (u : OddUse). IsTrue (is_odd_before u (get_or front k d))) (get_or_append_left front (x ∷ []) d j (omega arith))
              (subst (λ (u : OddUse). IsTrue (is_odd_before (get_or (front ++ x ∷ []) j d) u)) (get_or_append_left front (x ∷ []) d k inside) (ascending_split j k d before (omega arith)));
        }))

    pub odd_gone : (after : List OddUse) → after ≡ take (length odd - 1) odd → AreOddOnes (take (i + 1) sorted) after
    odd_gone after popped = gone after (popped ∙ shorter)

  -- ---- x is not the last: it is not there, and comes

  module _ (not_last : ¬ EndsWith odd x) where
    absent : ¬ Contains odd x
    absent = not_there is_odd_before odds_from_neither odd x h.ascending not_after not_last

    before_x : (o : OddUse) → Contains odd o → IsTrue (is_odd_before o x)
    before_x = all_before is_odd_before odds_from_neither odd x h.ascending not_after not_last

    even : ¬ (odd_times x (take i sorted) % 2 ≡ 1)
    even odd_now = absent ((h.exact x).1 odd_now)

    come_exact : (o : OddUse) → Contains (odd ++ x ∷ []) o ↔ (odd_times o (take i sorted ++ x ∷ []) % 2 ≡ 1)
    come_exact o =
        elim (same_or_not is_same_odd Decides-same_odds x o) [
          | inl same ↦ subst (λ (u : OddUse). Contains (odd ++ x ∷ []) u ↔ (odd_times u (take i sorted ++ x ∷ []) % 2 ≡ 1)) same
              (let more = times_push_same is_same_odd Decides-same_odds x (take i sorted) in let none = even in (λ _. omega arith, λ _. Contains-push odd x))
          | inr other ↦ (
              let more = times_push_other is_same_odd Decides-same_odds o x (take i sorted) other in (
                λ kept. ap (λ n. n % 2) more ∙ (h.exact o).0 (elim (Contains-push_cases odd x o kept) [ inl there ↦ there | inr same ↦ absurd (other same) ]),
                λ odd_now. Contains-append_left odd (x ∷ []) o ((h.exact o).1 (ap (λ n. n % 2) (sym more) ∙ odd_now)),
              ))
        ]

    pub odd_come : (after : List OddUse) → after ≡ odd ++ x ∷ [] → AreOddOnes (take (i + 1) sorted) after
    odd_come after pushed =
        subst (AreOddOnes (take (i + 1) sorted)) (sym pushed) (subst (λ (xs : List OddUse). AreOddOnes xs (odd ++ x ∷ [])) longer (record {
          exact = come_exact;
          ascending = all_pairs_push (λ o p. IsTrue (is_odd_before o p)) odd x h.ascending (λ k d inside. before_x (get_or odd k d) (Contains-get_or odd k d inside));
        }))
