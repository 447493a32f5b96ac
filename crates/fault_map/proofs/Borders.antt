-- The members beyond the sides of a region are those that border on it.
use mathlib.Core.List.{[], ◌∷◌}
use Rattle.std.proofs.Common.{◌≡◌, ◌⊎◌, refl, sym, ◌∙◌, ap, subst, ℕ, ◌+◌, ◌-◌, ◌*◌, ◌/◌, ◌%◌, ◌<◌, ◌==◌, ◌↔◌, Bool, true, false, cond, nat_eq, nat_lt, List, ◌++◌, length, inl, inr, Less, Equal, Greater, is_lt, IsPermutation, IsSorted, arith}
use Rattle.std.specs.Prelude.{AllPairs, Contains}
use Rattle.std.specs.List.{dedup}
use Rattle.std.specs.Ordering.{nat_cmp}
use Rattle.std.proofs.lemmas.Bool.{eq-eqb, ne_eqb, ltb-true, ltb-false, cases_eq}
use Rattle.std.proofs.lemmas.Bool.Decides.{Decides-eqb}
use Rattle.std.proofs.lemmas.Cmp.{nat_cmp_total}
use Rattle.std.proofs.lemmas.List.Elements.{Contains-append_cases, Contains-append_left, Contains-append_right, Contains-push, Contains-push_cases}
use Rattle.hot_pixel.proofs.Ascending.{set_ascending, set_contains}
use Rattle.arrangement.specs.Overlay.{Overlay, region_at, label_of, AreBeside}
use Rattle.half_edge.specs.Side.{across}
use Rattle.fault_map.specs.Beyond.{AreSidesOf, IsHeldBeyond, AreHeldBeyond}
use Rattle.fault_map.specs.FaultMap.{IsBordering, AreBordering}

-- ---- sorted, and each once

numbers_ordered : (a b : ℕ) → nat_lt a b ≡ false → nat_lt b a ≡ false → a ≡ b
numbers_ordered a b h k = let low = ltb-false a b h in let high = ltb-false b a k in omega (arith, low, high)

lt_is : (a b : ℕ) → is_lt (nat_cmp a b) ≡ nat_lt a b
lt_is a b = by (nat_lt a b) (a == b)
  where
    by : (less same : Bool) → is_lt (cond less Less (cond same Equal Greater)) ≡ less
    by true same = refl
    by false true = refl
    by false false = refl

module _ (xs moved ys : List ℕ) (permuted : IsPermutation xs moved) (sorted : IsSorted nat_cmp moved) (kept : ys ≡ dedup nat_eq moved) where
  pub kept_ascends : AllPairs (λ m n. m < n) ys
  kept_ascends j k d before within = ltb-true _ _ (set_ascending nat_eq Decides-eqb nat_cmp nat_cmp_total nat_lt lt_is numbers_ordered xs moved ys permuted sorted kept j k d before within)

  pub kept_contains : (m : ℕ) → Contains ys m ↔ Contains xs m
  kept_contains = set_contains nat_eq Decides-eqb nat_cmp nat_cmp_total nat_lt lt_is numbers_ordered xs moved ys permuted sorted kept

-- ---- the two sides of an edge

across_upper : (k : ℕ) → across (2 * k) ≡ 2 * k + 1
across_upper k = ap (λ t. cond t (2 * k + 1) (2 * k - 1)) (eq-eqb (2 * k % 2) 0 (omega arith))

across_lower : (k : ℕ) → across (2 * k + 1) ≡ 2 * k
across_lower k = ap (λ t. cond t (2 * k + 1 + 1) (2 * k + 1 - 1)) (ne_eqb ((2 * k + 1) % 2) 0 (λ e. omega (arith, e))) ∙ (let same : 2 * k + 1 - 1 ≡ 2 * k = omega arith in same)

module _ (o : Overlay) where
  -- the region across a side is beside that of the side
  beside_side : (n : ℕ) → n < 2 * length o.edges → AreBeside o (region_at o n) (region_at o (across n))
  beside_side n within = elim (cases_eq (n % 2) 0) [
    | inl even ↦ (
        let is : n ≡ 2 * (n / 2) = omega (arith, even) in
        subst (λ m. AreBeside o (region_at o m) (region_at o (across m))) (sym is)
        (record { edge = n / 2; listed = omega arith; sides = inl (refl, ap (region_at o) (sym (across_upper (n / 2)))) }))
    | inr odd ↦ (
        let is : n ≡ 2 * (n / 2) + 1 = omega (arith, odd) in
        subst (λ m. AreBeside o (region_at o m) (region_at o (across m))) (sym is)
        (record { edge = n / 2; listed = omega arith; sides = inr (ap (region_at o) (sym (across_lower (n / 2))), refl) }))
  ]

  -- and each region beside it is across one of its sides
  side_beside : (r s : ℕ) → AreBeside o r s → (n : ℕ) × ((n < 2 * length o.edges) × ((region_at o n ≡ r) × (region_at o (across n) ≡ s)))
  side_beside r s beside = by beside.sides
    where
      k : ℕ
      k = beside.edge

      by : ((region_at o (2 * k) ≡ r) × (region_at o (2 * k + 1) ≡ s)) ⊎ ((region_at o (2 * k) ≡ s) × (region_at o (2 * k + 1) ≡ r))
          → (n : ℕ) × ((n < 2 * length o.edges) × ((region_at o n ≡ r) × (region_at o (across n) ≡ s)))
      by (inl (up, down)) = (2 * k, ((let listed = beside.listed in omega (arith, listed)), (up, ap (region_at o) (across_upper k) ∙ down)))
      by (inr (up, down)) = (2 * k + 1, ((let listed = beside.listed in omega (arith, listed)), (down, ap (region_at o) (across_lower k) ∙ up)))

  -- who holds what is beyond the sides of a region borders on it
  pub beyond_borders : (r : ℕ) (sides : List ℕ) → AreSidesOf o r sides → (member : ℕ) → IsHeldBeyond o sides member ↔ IsBordering o r member
  beyond_borders r sides are member = (
    (λ h. (let its = (are h.side).0 h.listed in
        record { region = region_at o (across h.side); beside = subst (λ s. AreBeside o s (region_at o (across h.side))) its.1 (beside_side h.side its.0); holds = h.holds })),
    (λ h. (let found = side_beside r h.region h.beside in
        record { side = found.0; listed = (are found.0).1 (found.1.0, found.1.1.0); holds = subst (λ s. Contains (label_of o s) member) (sym found.1.1.1) h.holds })),
  )

  -- so they are those that border on it, each once and ascending
  pub bordered : (r : ℕ) (sides held members : List ℕ) → AreSidesOf o r sides → AreHeldBeyond o sides held → AllPairs (λ m n. m < n) members → ((m : ℕ) → Contains members m ↔ Contains held m) → AreBordering o r members
  bordered r sides held members are beyond ascending same = record {
    ascending = ascending;
    exact = λ member. (
      (λ has. (beyond_borders r sides are member).0 ((beyond member).0 ((same member).0 has))),
      (λ h. (same member).1 ((beyond member).1 ((beyond_borders r sides are member).1 h))),
    );
  }

  -- ---- one side more

  pub beyond_none : AreHeldBeyond o [] []
  beyond_none member = ((λ has. absurd (omega (arith, has.1))), (λ h. absurd (omega (arith, h.listed.1))))

  pub beyond_more : (sides : List ℕ) (n : ℕ) (held : List ℕ) → AreHeldBeyond o sides held → AreHeldBeyond o (sides ++ n ∷ []) (held ++ label_of o (region_at o (across n)))
  beyond_more sides n held are member = (there, back)
    where
      label : List ℕ
      label = label_of o (region_at o (across n))

      there : Contains (held ++ label) member → IsHeldBeyond o (sides ++ n ∷ []) member
      there has = elim (Contains-append_cases held label member has) [
        | inl old ↦ (let h = (are member).0 old in record { side = h.side; listed = Contains-append_left sides (n ∷ []) h.side h.listed; holds = h.holds })
        | inr new ↦ record { side = n; listed = Contains-push sides n; holds = new }
      ]

      back : IsHeldBeyond o (sides ++ n ∷ []) member → Contains (held ++ label) member
      back h = elim (Contains-push_cases sides n h.side h.listed) [
        | inl old ↦ Contains-append_left held label member ((are member).1 (record { side = h.side; listed = old; holds = h.holds }))
        | inr new ↦ Contains-append_right held label member (subst (λ (m : ℕ). Contains (label_of o (region_at o (across m))) member) (sym new) h.holds)
      ]
