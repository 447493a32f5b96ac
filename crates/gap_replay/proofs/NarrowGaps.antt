-- The list of narrow gaps, where it is known of each region whether it is one.
use mathlib.Core.List.{[], ◌∷◌}
use Rattle.std.proofs.Common.{◌≡◌, ◌⊎◌, inl, inr, sym, subst, ℕ, zero, suc, ◌*◌, ◌<◌, ◌≤◌, List, ◌++◌, length, get_or, arith}
use Rattle.std.specs.Prelude.{◌↔◌, AllPairs, Contains}
use Rattle.std.proofs.lemmas.Bool.{cases_eq}
use Rattle.std.proofs.lemmas.List.Elements.{Contains-append_left, Contains-get_or, Contains-push, Contains-push_cases}
use Rattle.std.proofs.lemmas.List.Quantifiers.{all_pairs_push}
use Rattle.plane.specs.Region.{IsRegionOf, AreRegions}
use Rattle.crossing_laws.proofs.Located.{one_region, side_at, side_within}
use Rattle.arrangement.specs.Overlay.{Overlay, region_at, IsRegion}
use Rattle.region_owners.specs.Owner.{IsNarrowGap}
use Rattle.cleaned_laws.proofs.Built.{region_of}
use Rattle.gap_replay.specs.Replay.{AreNarrowGaps}

module _ (o : Overlay) (w : ℕ) (regions : AreRegions o.edges o.numbers) (told : (r : ℕ) → IsRegion o.edges r → IsNarrowGap o r w ⊎ (IsNarrowGap o r w → ⊥)) where
  -- ---- a number is that of a narrow gap or not

  own_number : (r : ℕ) → IsRegion o.edges r → region_at o r ≡ r
  own_number r is = one_region o.edges is.at (region_at o r) r (regions.each r is.at is.side) is.own

  is_region : (r : ℕ) → r < 2 * length o.edges → region_at o r ≡ r → IsRegion o.edges r
  is_region r within own =
      let (p, at) = side_at o.edges r within in
      region_of o.edges p r (subst (IsRegionOf o.edges p) own (regions.each r p at))

  decided : (r : ℕ) → r < 2 * length o.edges → IsNarrowGap o r w ⊎ (IsNarrowGap o r w → ⊥)
  decided r within = elim (cases_eq (region_at o r) r) [
    | inl own ↦ told r (is_region r within own)
    | inr other ↦ inr (λ narrow. other (own_number r narrow.gap.region))
  ]

  -- ---- the narrow gaps below a number

  record AreGapsBelow (n : ℕ) (gaps : List ℕ) : Type 0 where
    ascending : AllPairs (λ j k. j < k) gaps
    exact : (r : ℕ) → Contains gaps r ↔ ((r < n) × IsNarrowGap o r w)

  none_below : AreGapsBelow 0 []
  none_below = record {
    ascending = λ i j d before within. absurd (omega arith);
    exact = λ r. ((λ has. absurd (let inside = has.1 in omega arith)), (λ is. absurd (let less = is.0 in omega arith)));
  }

  module _ (n : ℕ) (gaps : List ℕ) (so_far : AreGapsBelow n gaps) where
    into : IsNarrowGap o n w → (r : ℕ) → Contains (gaps ++ n ∷ []) r → (r < suc n) × IsNarrowGap o r w
    into narrow r has = elim (Contains-push_cases gaps n r has) [
      | inl old ↦ (let is = (so_far.exact r).0 old in (let less = is.0 in omega arith, is.1))
      | inr last ↦ (omega (arith, last), subst (λ k. IsNarrowGap o k w) last narrow)
    ]

    from : (r : ℕ) → (r < suc n) × IsNarrowGap o r w → Contains (gaps ++ n ∷ []) r
    from r is = elim (cases_eq r n) [
      | inl same ↦ subst (Contains (gaps ++ n ∷ [])) (sym same) (Contains-push gaps n)
      | inr other ↦ Contains-append_left gaps (n ∷ []) r ((so_far.exact r).1 ((let less = is.0 in omega (arith, other)), is.1))
    ]

    one_more : IsNarrowGap o n w → AreGapsBelow (suc n) (gaps ++ n ∷ [])
    one_more narrow = record {
      ascending = all_pairs_push (λ j k. j < k) gaps n so_far.ascending (λ k d within. ((so_far.exact (get_or gaps k d)).0 (Contains-get_or gaps k d within)).0);
      exact = λ r. (into narrow r, from r);
    }

    -- a narrow gap up to n is below n where n is none
    lesser : (IsNarrowGap o n w → ⊥) → (r : ℕ) → r < suc n → IsNarrowGap o r w → r < n
    lesser wide r less is = elim (cases_eq r n) [
      | inl same ↦ absurd (wide (subst (λ k. IsNarrowGap o k w) same is))
      | inr other ↦ omega (arith, other)
    ]

    none_more : (IsNarrowGap o n w → ⊥) → AreGapsBelow (suc n) gaps
    none_more wide = record {
      ascending = so_far.ascending;
      exact = λ r. (
        (λ has. (let is = (so_far.exact r).0 has in (let less = is.0 in omega arith, is.1))),
        (λ is. (so_far.exact r).1 (lesser wide r is.0 is.1, is.1)),
      );
    }

  gaps_below : (n : ℕ) → n ≤ 2 * length o.edges → (gaps : List ℕ) × AreGapsBelow n gaps
  gaps_below zero within = ([], none_below)
  gaps_below (suc n) within =
      let rest = gaps_below n (omega arith) in
      elim (decided n (omega arith)) [
        | inl narrow ↦ (rest.0 ++ n ∷ [], one_more n rest.0 rest.1 narrow)
        | inr wide ↦ (rest.0, none_more n rest.0 rest.1 wide)
      ]

  pub narrow_gaps_exist : (gaps : List ℕ) × AreNarrowGaps o w gaps
  narrow_gaps_exist =
      let all = gaps_below (2 * length o.edges) (omega arith) in (
        all.0,
        record {
          ascending = all.1.ascending;
          exact = λ r. (
            (λ has. ((all.1.exact r).0 has).1),
            (λ is. (all.1.exact r).1 (side_within o.edges r is.gap.region.at is.gap.region.side, is)),
          );
        },
      )
