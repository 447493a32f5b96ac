-- What is in a sector, by turns alone: less than half a turn, half a turn, more, and the full turn.
use mathlib.Core.List.{List}
use Rattle.std.proofs.Common.{◌≡◌, refl, sym, ◌∙◌, ap, subst, Bool, true, false, not, cond, ◌&&◌, ◌||◌, true≢false, ◌↔◌, ℤ, pos, ◌+ℤ◌, ◌*ℤ◌, ◌≤ℤ◌, ◌<ℤ◌, inl, inr, ◌⊎◌, arith}
use Rattle.cov_types.specs.declared.coord.Coord.{Coord}
use Rattle.cov_types.specs.declared.seg.Seg.{Seg}
use Rattle.integer_laws.proofs.Compare.{le_of_lt}
use Rattle.integer_laws.proofs.Ring.{lin, mul_comm, zero_mul}
use Rattle.integer_laws.proofs.Sign.{positive_times_positive, positive_times_negative, negative_times_positive, negative_times_negative, nonpos_times_nonneg, nonpos_times_nonpos, positive_factor, nonpos_factor, positive_cofactor, nonpos_cofactor}
use Rattle.plane.specs.Segment.{turn_of}
use Rattle.sector_laws.specs.Sector.{HalfEdge, target, is_left_of, is_in_sector, Leaves, IsPlanar}
use Rattle.sector_laws.proofs.Near.{cross}
use Rattle.sector_laws.proofs.Vectors.{cramer}
use Rattle.sector_laws.proofs.Leaving.{ray_x, ray_y, way_x, way_y, same_or_other, heading_same, heading_other, left_cross, not_left_cross}
use Rattle.sector_laws.proofs.Angles.{true_or_false, not_both, not_in_rest}
use Rattle.sector_laws.proofs.Order.{one_or_before, same_half_zero, cross_left, cross_not_left}
use Rattle.sector_laws.proofs.Exists.{before-irrefl, not_in_own}

-- ---- the tests of a sector, from the halves and the turns: x from g to a, y from g to k, z from k to a

abbrev before_of : (p q l : Bool) → Bool
before_of p q l = cond p (not q || l) (not q && l)

abbrev in_of : (p q r x y z : Bool) → Bool
in_of p q r x y z = cond (before_of p q x) (before_of p r y && before_of r q z) (before_of p r y || before_of r q z)

in_one_half : (p x y z : Bool) → in_of p p p x y z ≡ cond x (y && z) (y || z)
in_one_half true x y z = refl
in_one_half false x y z = refl

in_other_half : (p x y z : Bool) → in_of p p (not p) x y z ≡ not x
in_other_half true true y z = refl
in_other_half true false y z = refl
in_other_half false true y z = refl
in_other_half false false y z = refl

in_first_half : (p x y z : Bool) → in_of p (not p) p x y z ≡ y
in_first_half true x true z = refl
in_first_half true x false z = refl
in_first_half false x true z = refl
in_first_half false x false z = refl

in_last_half : (p x y z : Bool) → in_of p (not p) (not p) x y z ≡ z
in_last_half true x y z = refl
in_last_half false x y z = refl

both_of : (y z : Bool) → (y && z) ≡ true ↔ ((y ≡ true) × (z ≡ true))
both_of true z = (λ h. (refl, h), λ h. h.1)
both_of false z = (λ h. absurd (true≢false (sym h)), λ h. h.0)

neither_of : (y z : Bool) → (y || z) ≡ false ↔ ((y ≡ false) × (z ≡ false))
neither_of true z = (λ h. absurd (true≢false h), λ h. h.0)
neither_of false z = (λ h. (refl, h), λ h. h.1)

-- ---- over plain variables: x, y, z are the turns from g to a, from g to k and from k to a; tg > 0, ta and tk tell the halves

-- less than half a turn
narrow_other : (x y z tg ta tk : ℤ) → (y *ℤ ta) +ℤ (z *ℤ tg) ≡ x *ℤ tk → pos 0 <ℤ x → pos 0 <ℤ tg → pos 0 <ℤ ta → tk <ℤ pos 0 → pos 0 <ℤ y → pos 0 <ℤ z → ⊥
narrow_other x y z tg ta tk e hx hg ha hk hy hz = omega (arith, lin, positive_times_positive hy ha, positive_times_positive hz hg, positive_times_negative hx hk)

narrow_first : (x y z tg ta tk : ℤ) → (y *ℤ ta) +ℤ (z *ℤ tg) ≡ x *ℤ tk → pos 0 <ℤ x → pos 0 <ℤ tg → ta <ℤ pos 0 → pos 0 <ℤ tk → pos 0 <ℤ y → pos 0 <ℤ z
narrow_first x y z tg ta tk e hx hg ha hk hy =
    positive_factor tg z (le_of_lt hg) (omega (arith, lin, positive_times_negative hy ha, positive_times_positive hx hk, mul_comm tg z))

narrow_last : (x y z tg ta tk : ℤ) → (y *ℤ ta) +ℤ (z *ℤ tg) ≡ x *ℤ tk → pos 0 <ℤ x → pos 0 <ℤ tg → ta <ℤ pos 0 → tk <ℤ pos 0 → pos 0 <ℤ z → pos 0 <ℤ y
narrow_last x y z tg ta tk e hx hg ha hk hz =
    positive_cofactor ta y (le_of_lt ha) (omega (arith, lin, positive_times_positive hz hg, positive_times_negative hx hk, mul_comm ta y))

-- more than half a turn
wide_other : (x y z tg ta tk : ℤ) → (y *ℤ ta) +ℤ (z *ℤ tg) ≡ x *ℤ tk → x <ℤ pos 0 → pos 0 <ℤ tg → pos 0 <ℤ ta → tk <ℤ pos 0 → y ≤ℤ pos 0 → z ≤ℤ pos 0 → ⊥
wide_other x y z tg ta tk e hx hg ha hk hy hz =
    omega (arith, lin, nonpos_times_nonneg hy (le_of_lt ha), nonpos_times_nonneg hz (le_of_lt hg), negative_times_negative hx hk)

wide_first : (x y z tg ta tk : ℤ) → (y *ℤ ta) +ℤ (z *ℤ tg) ≡ x *ℤ tk → x <ℤ pos 0 → pos 0 <ℤ tg → ta <ℤ pos 0 → pos 0 <ℤ tk → y ≤ℤ pos 0 → z ≤ℤ pos 0
wide_first x y z tg ta tk e hx hg ha hk hy =
    nonpos_factor tg z hg (omega (arith, lin, nonpos_times_nonpos hy (le_of_lt ha), negative_times_positive hx hk, mul_comm tg z))

wide_last : (x y z tg ta tk : ℤ) → (y *ℤ ta) +ℤ (z *ℤ tg) ≡ x *ℤ tk → x <ℤ pos 0 → pos 0 <ℤ tg → ta <ℤ pos 0 → tk <ℤ pos 0 → z ≤ℤ pos 0 → y ≤ℤ pos 0
wide_last x y z tg ta tk e hx hg ha hk hz =
    nonpos_cofactor ta y ha (omega (arith, lin, nonpos_times_nonneg hz (le_of_lt hg), negative_times_negative hx hk, mul_comm ta y))

-- half a turn
straight_last : (x y z tg ta tk : ℤ) → (y *ℤ ta) +ℤ (z *ℤ tg) ≡ x *ℤ tk → x ≡ pos 0 → pos 0 <ℤ tg → ta <ℤ pos 0 → (pos 0 <ℤ z) ↔ (pos 0 <ℤ y)
straight_last x y z tg ta tk e zero hg ha =
    let none = ap (λ t. t *ℤ tk) zero ∙ zero_mul tk in (
      λ hz. positive_cofactor ta y (le_of_lt ha) (omega (arith, lin, positive_times_positive hz hg, mul_comm ta y)),
      λ hy. positive_factor tg z (le_of_lt hg) (omega (arith, lin, positive_times_negative hy ha, mul_comm tg z)),
    )

-- a test that is true exactly where a number is positive
abbrev Tells : Bool → ℤ → Type 0
Tells l x = ((l ≡ true) ↔ (pos 0 <ℤ x)) × ((l ≡ false) ↔ (x ≤ℤ pos 0))

-- ---- less than half a turn: k is strictly between

narrow_of : (p q r x y z : Bool) (tx ty tz tg ta tk : ℤ) → ((q ≡ p) × (pos 0 <ℤ ta)) ⊎ ((q ≡ not p) × (ta <ℤ pos 0)) → ((r ≡ p) × (pos 0 <ℤ tk)) ⊎ ((r ≡ not p) × (tk <ℤ pos 0))
    → Tells x tx → Tells y ty → Tells z tz → pos 0 <ℤ tg → (ty *ℤ ta) +ℤ (tz *ℤ tg) ≡ tx *ℤ tk → pos 0 <ℤ tx
    → (in_of p q r x y z ≡ true) ↔ ((pos 0 <ℤ ty) × (pos 0 <ℤ tz))
narrow_of p q r x y z tx ty tz tg ta tk half_a half_k is_x is_y is_z hg e narrow =
    let x_true = is_x.0.1 narrow in
    elim half_a [
      | inl same_a ↦ elim half_k [
        | inl same_k ↦ (
            let value = (λ i. in_of p (same_a.0 i) (same_k.0 i) x y z) ∙ in_one_half p x y z ∙ ap (λ t. cond t (y && z) (y || z)) x_true in (
              λ h. (let b = (both_of y z).0 (sym value ∙ h) in (is_y.0.0 b.0, is_z.0.0 b.1)),
              λ h. value ∙ (both_of y z).1 (is_y.0.1 h.0, is_z.0.1 h.1),
            )
            )
        | inr other_k ↦ (
            let value = (λ i. in_of p (same_a.0 i) (other_k.0 i) x y z) ∙ in_other_half p x y z ∙ ap not x_true in (
              λ h. absurd (not_both h value),
              λ h. absurd (narrow_other tx ty tz tg ta tk e narrow hg same_a.1 other_k.1 h.0 h.1),
            )
            )
      ]
      | inr other_a ↦ elim half_k [
        | inl same_k ↦ (
            let value = (λ i. in_of p (other_a.0 i) (same_k.0 i) x y z) ∙ in_first_half p x y z in (
              λ h. (let hy = is_y.0.0 (sym value ∙ h) in (hy, narrow_first tx ty tz tg ta tk e narrow hg other_a.1 same_k.1 hy)),
              λ h. value ∙ is_y.0.1 h.0,
            )
            )
        | inr other_k ↦ (
            let value = (λ i. in_of p (other_a.0 i) (other_k.0 i) x y z) ∙ in_last_half p x y z in (
              λ h. (let hz = is_z.0.0 (sym value ∙ h) in (narrow_last tx ty tz tg ta tk e narrow hg other_a.1 other_k.1 hz, hz)),
              λ h. value ∙ is_z.0.1 h.1,
            )
            )
      ]
    ]

-- ---- more: k is not between from the other side

wide_of : (p q r x y z : Bool) (tx ty tz tg ta tk : ℤ) → ((q ≡ p) × (pos 0 <ℤ ta)) ⊎ ((q ≡ not p) × (ta <ℤ pos 0)) → ((r ≡ p) × (pos 0 <ℤ tk)) ⊎ ((r ≡ not p) × (tk <ℤ pos 0))
    → Tells x tx → Tells y ty → Tells z tz → pos 0 <ℤ tg → (ty *ℤ ta) +ℤ (tz *ℤ tg) ≡ tx *ℤ tk → tx <ℤ pos 0
    → (in_of p q r x y z ≡ false) ↔ ((ty ≤ℤ pos 0) × (tz ≤ℤ pos 0))
wide_of p q r x y z tx ty tz tg ta tk half_a half_k is_x is_y is_z hg e wide =
    let x_false = is_x.1.1 (le_of_lt wide) in
    elim half_a [
      | inl same_a ↦ elim half_k [
        | inl same_k ↦ (
            let value = (λ i. in_of p (same_a.0 i) (same_k.0 i) x y z) ∙ in_one_half p x y z ∙ ap (λ t. cond t (y && z) (y || z)) x_false in (
              λ h. (let b = (neither_of y z).0 (sym value ∙ h) in (is_y.1.0 b.0, is_z.1.0 b.1)),
              λ h. value ∙ (neither_of y z).1 (is_y.1.1 h.0, is_z.1.1 h.1),
            )
            )
        | inr other_k ↦ (
            let value = (λ i. in_of p (same_a.0 i) (other_k.0 i) x y z) ∙ in_other_half p x y z ∙ ap not x_false in (
              λ h. absurd (not_both value h),
              λ h. absurd (wide_other tx ty tz tg ta tk e wide hg same_a.1 other_k.1 h.0 h.1),
            )
            )
      ]
      | inr other_a ↦ elim half_k [
        | inl same_k ↦ (
            let value = (λ i. in_of p (other_a.0 i) (same_k.0 i) x y z) ∙ in_first_half p x y z in (
              λ h. (let hy = is_y.1.0 (sym value ∙ h) in (hy, wide_first tx ty tz tg ta tk e wide hg other_a.1 same_k.1 hy)),
              λ h. value ∙ is_y.1.1 h.0,
            )
            )
        | inr other_k ↦ (
            let value = (λ i. in_of p (other_a.0 i) (other_k.0 i) x y z) ∙ in_last_half p x y z in (
              λ h. (let hz = is_z.1.0 (sym value ∙ h) in (wide_last tx ty tz tg ta tk e wide hg other_a.1 other_k.1 hz, hz)),
              λ h. value ∙ is_z.1.1 h.1,
            )
            )
      ]
    ]

-- ---- half a turn: k is on the left

straight_of : (p q r x y z : Bool) (tx ty tz tg ta tk : ℤ) → (q ≡ not p) × (ta <ℤ pos 0) → ((r ≡ p) × (pos 0 <ℤ tk)) ⊎ ((r ≡ not p) × (tk <ℤ pos 0))
    → Tells y ty → Tells z tz → pos 0 <ℤ tg → (ty *ℤ ta) +ℤ (tz *ℤ tg) ≡ tx *ℤ tk → tx ≡ pos 0
    → (in_of p q r x y z ≡ true) ↔ (pos 0 <ℤ ty)
straight_of p q r x y z tx ty tz tg ta tk other_a half_k is_y is_z hg e straight =
    elim half_k [
      | inl same_k ↦ (
          let value = (λ i. in_of p (other_a.0 i) (same_k.0 i) x y z) ∙ in_first_half p x y z in
          (λ h. is_y.0.0 (sym value ∙ h), λ h. value ∙ is_y.0.1 h)
          )
      | inr other_k ↦ (
          let value = (λ i. in_of p (other_a.0 i) (other_k.0 i) x y z) ∙ in_last_half p x y z in
          let last = straight_last tx ty tz tg ta tk e straight hg other_a.1 in
          (λ h. last.0 (is_z.0.0 (sym value ∙ h)), λ h. value ∙ is_z.0.1 (last.1 h))
          )
    ]

-- ---- for the half-edges that leave a vertex

module _ (edges : List Seg) (planar : IsPlanar edges) (v : Coord) where
  abbrev turn : HalfEdge → HalfEdge → ℤ
  turn h g = cross (way_x v h) (way_y v h) (way_x v g) (way_y v g)

  abbrev heading : Bool → HalfEdge → ℤ
  heading b h = cross (way_x v h) (way_y v h) (ray_x b) (ray_y b)

  turn_is : (h g : HalfEdge) → turn_of v (target h) (target g) ≡ turn h g
  unfolding turn_of
  turn_is h g = refl

  tells : (h g : HalfEdge) → Leaves edges v h → Tells (is_left_of g h) (turn h g)
  tells h g at =
      let positive = λ (l : is_left_of g h ≡ true). left_cross edges planar v g h at l in
      let not_positive = λ (l : is_left_of g h ≡ false). not_left_cross edges planar v g h at l in
      ((positive, cross_left edges planar v g h at), (not_positive, cross_not_left edges planar v g h at))

  half_of : (b : Bool) (h : HalfEdge) → Leaves edges v h → ((h.forwards ≡ b) × (pos 0 <ℤ heading b h)) ⊎ ((h.forwards ≡ not b) × (heading b h <ℤ pos 0))
  half_of b h at =
      elim (same_or_other h.forwards b) [
        | inl same ↦ inl (same, heading_same edges planar v b h at same)
        | inr other ↦ inr (other, heading_other edges planar v b h at other)
      ]

  -- Cramer's rule for the three
  tied : (b : Bool) (g a k : HalfEdge) → (turn g k *ℤ heading b a) +ℤ (turn k a *ℤ heading b g) ≡ turn g a *ℤ heading b k
  tied b g a k = cramer (way_x v a) (way_y v a) (way_x v g) (way_y v g) (way_x v k) (way_y v k) (ray_x b) (ray_y b)

  pub narrow_sector : (g a k : HalfEdge) → Leaves edges v g → Leaves edges v a → Leaves edges v k → pos 0 <ℤ turn_of v (target g) (target a)
      → (is_in_sector g a k ≡ true) ↔ ((pos 0 <ℤ turn_of v (target g) (target k)) × (pos 0 <ℤ turn_of v (target k) (target a)))
  narrow_sector g a k at_g at_a at_k narrow =
      rw (turn_is g k, turn_is k a)
      (narrow_of g.forwards a.forwards k.forwards (is_left_of a g) (is_left_of k g) (is_left_of a k) (turn g a) (turn g k) (turn k a)
      (heading g.forwards g) (heading g.forwards a) (heading g.forwards k) (half_of g.forwards a at_a) (half_of g.forwards k at_k)
      (tells g a at_g) (tells g k at_g) (tells k a at_k) (heading_same edges planar v g.forwards g at_g refl) (tied g.forwards g a k)
      (subst (λ t. pos 0 <ℤ t) (turn_is g a) narrow))

  pub wide_sector : (g a k : HalfEdge) → Leaves edges v g → Leaves edges v a → Leaves edges v k → turn_of v (target g) (target a) <ℤ pos 0
      → (is_in_sector g a k ≡ false) ↔ ((turn_of v (target g) (target k) ≤ℤ pos 0) × (turn_of v (target k) (target a) ≤ℤ pos 0))
  wide_sector g a k at_g at_a at_k wide =
      rw (turn_is g k, turn_is k a)
      (wide_of g.forwards a.forwards k.forwards (is_left_of a g) (is_left_of k g) (is_left_of a k) (turn g a) (turn g k) (turn k a)
      (heading g.forwards g) (heading g.forwards a) (heading g.forwards k) (half_of g.forwards a at_a) (half_of g.forwards k at_k)
      (tells g a at_g) (tells g k at_g) (tells k a at_k) (heading_same edges planar v g.forwards g at_g refl) (tied g.forwards g a k)
      (subst (λ t. t <ℤ pos 0) (turn_is g a) wide))

  pub straight_sector : (g a k : HalfEdge) → Leaves edges v g → Leaves edges v a → Leaves edges v k → ¬ (g ≡ a) → turn_of v (target g) (target a) ≡ pos 0
      → (is_in_sector g a k ≡ true) ↔ (pos 0 <ℤ turn_of v (target g) (target k))
  straight_sector g a k at_g at_a at_k apart straight =
      let zero = sym (turn_is g a) ∙ straight in
      elim (half_of g.forwards a at_a) [
        | inl same ↦ absurd (apart (same_half_zero edges planar v g a at_g at_a (sym same.0) zero))
        | inr other ↦
            rw (turn_is g k)
            (straight_of g.forwards a.forwards k.forwards (is_left_of a g) (is_left_of k g) (is_left_of a k) (turn g a) (turn g k) (turn k a)
            (heading g.forwards g) (heading g.forwards a) (heading g.forwards k) other (half_of g.forwards k at_k)
            (tells g k at_g) (tells k a at_k) (heading_same edges planar v g.forwards g at_g refl) (tied g.forwards g a k) zero)
      ]

  pub full_sector : (g k : HalfEdge) → Leaves edges v g → Leaves edges v k → (is_in_sector g g k ≡ true) ↔ ¬ (k ≡ g)
  full_sector g k at_g at_k = (
    λ h same. not_both h (subst (λ x. is_in_sector g g x ≡ false) (sym same) (not_in_own edges planar v g g at_g)),
    λ apart. elim (true_or_false (is_in_sector g g k)) [
      | inl inside ↦ inside
      | inr out ↦ (
          let none = not_in_rest g g k (before-irrefl edges planar v g at_g) out in
          elim (one_or_before edges planar v k g at_k at_g) [
            | inl same ↦ absurd (apart same)
            | inr one ↦ elim one [
              | inl before ↦ absurd (not_both before none.1)
              | inr after ↦ absurd (not_both after none.0)
            ]
          ]
          )
    ],
  )
