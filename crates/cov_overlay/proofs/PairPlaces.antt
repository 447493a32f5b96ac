-- Where the search for a pair ends in a list of pairs in order.
use Rattle.std.proofs.Common.{◌≡◌, sym, ◌∙◌, ap, subst, ℕ, Bool, true, false, List, get_or, IsTrue, Some, inl, inr, arith}
use Rattle.std.specs.Prelude.{AllPairs, Contains, slice_get}
use Rattle.std.specs.List.Sorted.{IsPartitionedBy, IsPartitionPoint}
use Rattle.std.specs.Ordering.{is_lt}
use Rattle.std.proofs.lemmas.Bool.{cases_order, true≢false}
use Rattle.std.proofs.lemmas.Option.{slice_get-get_or}
use Rattle.overlaid_laws.specs.declared.pair.Pair.{Pair}
use Rattle.overlaid_laws.specs.Pairs.{is_pair_before}
use Rattle.cov_overlay.proofs.PairOrder.{pair_cmp, is_lt-pair_cmp, is_pair_before-irrefl, is_pair_before-trans}

module _ (pairs : List Pair) (up : AllPairs (λ p q. IsTrue (is_pair_before p q)) pairs) (pair : Pair) where
  abbrev pub is_earlier : Pair → Bool
  is_earlier p = is_lt (pair_cmp p pair)

  pub partitioned : IsPartitionedBy is_earlier pairs
  partitioned i j d le within h = elim (cases_order i j) [
    | inl same ↦ ap (λ k. is_earlier (get_or pairs k d)) same ∙ h
    | inr rest ↦ elim rest [
      | inl less ↦ is_lt-pair_cmp (get_or pairs i d) pair ∙ is_pair_before-trans (get_or pairs i d) (get_or pairs j d) pair (up i j d less within) (sym (is_lt-pair_cmp (get_or pairs j d) pair) ∙ h)
      | inr more ↦ absurd (omega arith)
    ]
  ]

  pub place_is : Contains pairs pair → (r : ℕ) → IsPartitionPoint (λ p. is_earlier p ≡ true) (λ p. is_earlier p ≡ false) pairs r → slice_get pairs r ≡ Some pair
  place_is (k, inside, is) r point =
      let at : slice_get pairs k ≡ Some pair = slice_get-get_or pairs k pair inside ∙ ap Some is in
      elim (cases_order r k) [
        | inl same ↦ ap (slice_get pairs) same ∙ at
        | inr rest ↦ elim rest [
          | inl less ↦ absurd (true≢false (sym (is_lt-pair_cmp (get_or pairs r pair) pair ∙ subst (λ p. IsTrue (is_pair_before (get_or pairs r pair) p)) is (up r k pair less inside)) ∙ point.1 r pair (omega arith) (omega arith)))
          | inr more ↦ absurd (true≢false (sym (point.0 k pair (omega arith) more) ∙ ap is_earlier is ∙ is_lt-pair_cmp pair pair ∙ is_pair_before-irrefl pair))
        ]
      ]
