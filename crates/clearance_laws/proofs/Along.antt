-- From a point of an edge along it to its middle, and from there to its upper side.
use mathlib.Core.List.{[], ◌∷◌}
use Rattle.std.proofs.Common.{◌≡◌, refl, sym, ◌∙◌, subst, ◌+◌, ◌*◌, ◌^◌, ℤ, pos, neg_ℤ, ◌+ℤ◌, ◌-ℤ◌, ◌*ℤ◌, ◌≤ℤ◌, ◌<ℤ◌, inl, inr, arith}
use Rattle.std.proofs.lemmas.Int.{ints}
use Rattle.cov_types.specs.declared.seg.Seg.{Seg}
use Rattle.integer_laws.proofs.Cast.{pos_add, pos_mul, pos_nonneg}
use Rattle.integer_laws.proofs.Compare.{le_of_lt, le_cases}
use Rattle.integer_laws.proofs.Ring.{lin, by_one, Var, Lit, ◌⊕◌, ◌⊖◌, ◌⊗◌, mul_one, mul_add}
use Rattle.integer_laws.proofs.Sign.{nonneg_times_nonneg, positive_times_positive}
use Rattle.plane.specs.Point.{Point, at_coord, SamePoint, IsBetween}
use Rattle.plane.specs.Ray.{sweep, Rises}
use Rattle.plane.specs.Segment.{IsOn, IsEnd, midpoint, upper, lower}
use Rattle.plane.proofs.Forms.{form, between_weight, form_not_negative-between, form_not_positive-between, form_positive-between, form_negative-between, form_zero-between}
use Rattle.plane.proofs.Points.{d_positive, same_point-sym, same_point-trans, between_by}
use Rattle.plane.proofs.Sides.{side_a, side_b, side_c, side-form, side_zero-on}
use Rattle.plane.proofs.Sweeps.{sweep-above, sweep-same, same_as_lo, same_as_hi, on-is}

-- ---- from a point of an edge along it to its middle, and to its upper side

-- over plain variables: w is the sum of the weights a and b, times the denominators of the middle and the upper side
half_x : (w rx rd a b x : ℤ) → rx *ℤ w ≡ rd *ℤ ((a *ℤ x) +ℤ (b *ℤ ((pos (2 ^ 63) *ℤ x) -ℤ pos 1)))
    → (pos (2 ^ 64) *ℤ w) *ℤ rx ≡ ((rd *ℤ a) *ℤ ((pos (2 ^ 63) *ℤ x) +ℤ pos 1)) +ℤ ((rd *ℤ (a +ℤ (pos (2 ^ 64) *ℤ b))) *ℤ ((pos (2 ^ 63) *ℤ x) -ℤ pos 1))
half_x w rx rd a b x h =
    by_one (w ∷ rx ∷ rd ∷ a ∷ b ∷ x ∷ [])
    ((Lit (pos (2 ^ 64)) ⊗ Var 0) ⊗ Var 1)
    ((Var 2 ⊗ Var 3) ⊗ (Lit (pos (2 ^ 63)) ⊗ Var 5 ⊕ Lit (pos 1)) ⊕ (Var 2 ⊗ (Var 3 ⊕ Lit (pos (2 ^ 64)) ⊗ Var 4)) ⊗ (Lit (pos (2 ^ 63)) ⊗ Var 5 ⊖ Lit (pos 1)))
    (Lit (pos (2 ^ 64))) (Var 1 ⊗ Var 0) (Var 2 ⊗ (Var 3 ⊗ Var 5 ⊕ Var 4 ⊗ (Lit (pos (2 ^ 63)) ⊗ Var 5 ⊖ Lit (pos 1)))) refl h

half_y : (w ry rd a b y : ℤ) → ry *ℤ w ≡ rd *ℤ ((a *ℤ y) +ℤ (b *ℤ ((pos (2 ^ 63) *ℤ y) +ℤ pos (2 ^ 30))))
    → (pos (2 ^ 64) *ℤ w) *ℤ ry ≡ ((rd *ℤ a) *ℤ ((pos (2 ^ 63) *ℤ y) -ℤ pos (2 ^ 30))) +ℤ ((rd *ℤ (a +ℤ (pos (2 ^ 64) *ℤ b))) *ℤ ((pos (2 ^ 63) *ℤ y) +ℤ pos (2 ^ 30)))
half_y w ry rd a b y h =
    by_one (w ∷ ry ∷ rd ∷ a ∷ b ∷ y ∷ [])
    ((Lit (pos (2 ^ 64)) ⊗ Var 0) ⊗ Var 1)
    ((Var 2 ⊗ Var 3) ⊗ (Lit (pos (2 ^ 63)) ⊗ Var 5 ⊖ Lit (pos (2 ^ 30))) ⊕ (Var 2 ⊗ (Var 3 ⊕ Lit (pos (2 ^ 64)) ⊗ Var 4)) ⊗ (Lit (pos (2 ^ 63)) ⊗ Var 5 ⊕ Lit (pos (2 ^ 30))))
    (Lit (pos (2 ^ 64))) (Var 1 ⊗ Var 0) (Var 2 ⊗ (Var 3 ⊗ Var 5 ⊕ Var 4 ⊗ (Lit (pos (2 ^ 63)) ⊗ Var 5 ⊕ Lit (pos (2 ^ 30))))) refl h

half_d : (w rd a b : ℤ) → w ≡ (a *ℤ pos 2) +ℤ (b *ℤ pos (2 ^ 64))
    → (pos (2 ^ 64) *ℤ w) *ℤ rd ≡ ((rd *ℤ a) *ℤ pos (2 ^ 64)) +ℤ ((rd *ℤ (a +ℤ (pos (2 ^ 64) *ℤ b))) *ℤ pos (2 ^ 64))
half_d w rd a b h =
    by_one (w ∷ rd ∷ a ∷ b ∷ [])
    ((Lit (pos (2 ^ 64)) ⊗ Var 0) ⊗ Var 1) ((Var 1 ⊗ Var 2) ⊗ Lit (pos (2 ^ 64)) ⊕ (Var 1 ⊗ (Var 2 ⊕ Lit (pos (2 ^ 64)) ⊗ Var 3)) ⊗ Lit (pos (2 ^ 64)))
    (Lit (pos (2 ^ 64)) ⊗ Var 1) (Var 0) (Var 2 ⊗ Lit (pos 2) ⊕ Var 3 ⊗ Lit (pos (2 ^ 64))) refl h

half_sum : (w rd a b : ℤ) → w ≡ (a *ℤ pos 2) +ℤ (b *ℤ pos (2 ^ 64)) → (rd *ℤ a) +ℤ (rd *ℤ (a +ℤ (pos (2 ^ 64) *ℤ b))) ≡ rd *ℤ w
half_sum w rd a b h =
    by_one (w ∷ rd ∷ a ∷ b ∷ [])
    (Var 1 ⊗ Var 2 ⊕ Var 1 ⊗ (Var 2 ⊕ Lit (pos (2 ^ 64)) ⊗ Var 3)) (Var 1 ⊗ Var 0)
    (Var 1) (Var 2 ⊗ Lit (pos 2) ⊕ Var 3 ⊗ Lit (pos (2 ^ 64))) (Var 0) refl (sym h)

-- from the middle to the upper side is a part of the way from the lower to the upper
pub upper_half : (e : Seg) (r : Point) → IsBetween r (midpoint e) (upper e) → IsBetween r (lower e) (upper e)
upper_half e r h =
    between_by r (lower e) (upper e) (pos (2 ^ 64) *ℤ w) (rd *ℤ a) (rd *ℤ (a +ℤ (pos (2 ^ 64) *ℤ b)))
    (nonneg_times_nonneg (le_of_lt (d_positive r)) (pos_nonneg h.first))
    (nonneg_times_nonneg {x = rd} {y = a +ℤ (pos (2 ^ 64) *ℤ b)} (le_of_lt (d_positive r)) (let x = pos_nonneg h.first in let y = nonneg_times_nonneg {x = pos (2 ^ 64)} {y = b} (pos_nonneg (2 ^ 64)) (pos_nonneg h.second) in omega (arith, lin)))
    (subst (λ z. pos 0 <ℤ z) (sym (half_sum w rd a b w_is)) (positive_times_positive (d_positive r) (between_weight r (midpoint e) (upper e) h)))
    (half_x w r.x rd a b (e.lo.x +ℤ e.hi.x) h.x) (half_y w r.y rd a b (e.lo.y +ℤ e.hi.y) h.y) (half_d w rd a b w_is)
  where
    w : ℤ
    w = pos (h.first * 2 + h.second * 2 ^ 64)

    rd : ℤ
    rd = pos r.d

    a : ℤ
    a = pos h.first

    b : ℤ
    b = pos h.second

    w_is : w ≡ (a *ℤ pos 2) +ℤ (b *ℤ pos (2 ^ 64))
    w_is = pos_add (h.first * 2) (h.second * 2 ^ 64) ∙ (λ i. pos_mul h.first 2 i +ℤ pos_mul h.second (2 ^ 64) i)

module _ (e : Seg) (rises : Rises e) where
  pub on_middle : IsOn e (midpoint e)
  on_middle = between_by (midpoint e) (at_coord e.lo) (at_coord e.hi) (pos 1) (pos 1) (pos 1) (record { le = tt }) (record { le = tt }) (record { lt = tt }) (middle e.lo.x e.hi.x) (middle e.lo.y e.hi.y) refl
    where
      middle : (x y : ℤ) → pos 1 *ℤ (x +ℤ y) ≡ (pos 1 *ℤ x) +ℤ (pos 1 *ℤ y)
      middle x y = mul_add (pos 1) x y

  abbrev above_lo : Point → ℤ
  above_lo p = form (pos (2 ^ 30)) (pos 1) (neg_ℤ (sweep (at_coord e.lo))) p

  abbrev above_hi : Point → ℤ
  above_hi p = form (pos (2 ^ 30)) (pos 1) (neg_ℤ (sweep (at_coord e.hi))) p

  from_lo : (p : Point) → IsOn e p → pos 0 ≤ℤ above_lo p
  from_lo p on = let is = (on-is e p rises).0 on in let above = sweep-above (sweep (at_coord e.lo)) p in let low = is.1 in omega (arith, lin)

  to_hi : (p : Point) → IsOn e p → above_hi p ≤ℤ pos 0
  to_hi p on = let is = (on-is e p rises).0 on in let above = sweep-above (sweep (at_coord e.hi)) p in let high = is.2 in omega (arith, lin)

  -- between two points of the edge are points of it
  pub on_between : (r p q : Point) → IsBetween r p q → IsOn e p → IsOn e q → IsOn e r
  on_between r p q h on_p on_q =
      let low = form_not_negative-between (pos (2 ^ 30)) (pos 1) (neg_ℤ (sweep (at_coord e.lo))) r p q h (from_lo p on_p) (from_lo q on_q) in
      let high = form_not_positive-between (pos (2 ^ 30)) (pos 1) (neg_ℤ (sweep (at_coord e.hi))) r p q h (to_hi p on_p) (to_hi q on_q) in
      let above = sweep-above (sweep (at_coord e.lo)) r in
      let below = sweep-above (sweep (at_coord e.hi)) r in
      let zero = form_zero-between (side_a e) (side_b e) (side_c e) r p q h (sym (side-form e p) ∙ side_zero-on e p on_p) (sym (side-form e q) ∙ side_zero-on e q on_q) in
      (on-is e r rises).1 (side-form e r ∙ zero, omega (arith, lin), omega (arith, lin))

  middle_from : pos 0 <ℤ above_lo (midpoint e)
  unfolding sweep
  middle_from = let above = sweep-above (sweep (at_coord e.lo)) (midpoint e) in let up = rises in omega (arith, ints)

  middle_to : above_hi (midpoint e) <ℤ pos 0
  unfolding sweep
  middle_to = let above = sweep-above (sweep (at_coord e.hi)) (midpoint e) in let up = rises in omega (arith, ints)

  -- where an end is between a point of the edge and the middle, it is that point
  pub end_first : (r c : Point) → IsBetween r c (midpoint e) → IsOn e c → IsEnd e r → SamePoint r c
  end_first r c h on (inl lo) =
      let here = sweep-same r (at_coord e.lo) lo in
      let one = mul_one (sweep r) in
      let above = sweep-above (sweep (at_coord e.lo)) r in
      let at_c = sweep-above (sweep (at_coord e.lo)) c in
      elim (le_cases (from_lo c on)) [
        | inl more ↦ (let past = form_positive-between (pos (2 ^ 30)) (pos 1) (neg_ℤ (sweep (at_coord e.lo))) r c (midpoint e) h more middle_from in absurd (omega (arith, lin)))
        | inr none ↦ same_point-trans r (at_coord e.lo) c lo (same_point-sym c (at_coord e.lo) (same_as_lo e c rises (side_zero-on e c on) (omega (arith, lin))))
      ]
  end_first r c h on (inr hi) =
      let here = sweep-same r (at_coord e.hi) hi in
      let one = mul_one (sweep r) in
      let above = sweep-above (sweep (at_coord e.hi)) r in
      let at_c = sweep-above (sweep (at_coord e.hi)) c in
      elim (le_cases (to_hi c on)) [
        | inl less ↦ (let past = form_negative-between (pos (2 ^ 30)) (pos 1) (neg_ℤ (sweep (at_coord e.hi))) r c (midpoint e) h less middle_to in absurd (omega (arith, lin)))
        | inr none ↦ same_point-trans r (at_coord e.hi) c hi (same_point-sym c (at_coord e.hi) (same_as_hi e c rises (side_zero-on e c on) (omega (arith, lin))))
      ]
