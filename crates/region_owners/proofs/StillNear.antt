-- A point on the way from a grid point to a near one is as near.
use mathlib.Core.List.{[], ◌∷◌}
use Rattle.std.proofs.Common.{◌≡◌, refl, ◌∙◌, ap, subst, ℕ, zero, suc, ◌+◌, ◌*◌, ◌≤◌, List, ℤ, pos, ◌+ℤ◌, ◌-ℤ◌, ◌*ℤ◌, ◌≤ℤ◌, ◌<ℤ◌, arith}
use Rattle.cov_types.specs.declared.coord.Coord.{Coord}
use Rattle.integer_laws.proofs.Cast.{pos_add, pos_mul, pos_nonneg, pos_positive}
use Rattle.integer_laws.proofs.Compare.{le_of_lt, lt_excludes_le}
use Rattle.integer_laws.proofs.Order.{mul_le, cancel_le, mul_le_mul}
use Rattle.integer_laws.proofs.Ring.{lin, by_ring, by_one, by_two, Var, Lit, ◌⊕◌, ◌⊖◌, ◌⊗◌, Neg, zero_mul}
use Rattle.integer_laws.proofs.Sign.{nonneg_times_nonneg, positive_times_positive, nonpos_factor, square_nonneg}
use Rattle.plane.specs.Point.{Point, at_coord, IsBetween}
use Rattle.distance_laws.specs.Room.{squared_distance}

-- ---- over plain variables: (sx, sd) is the mean of (qx, 1) and (cx, cd) with the weights m and n, whose sum is k

gap_is : (k qx sd sx m n cx cd : ℤ) → k ≡ m +ℤ (n *ℤ cd) → sx *ℤ k ≡ sd *ℤ ((m *ℤ qx) +ℤ (n *ℤ cx)) → k *ℤ ((qx *ℤ sd) -ℤ sx) ≡ (sd *ℤ n) *ℤ ((qx *ℤ cd) -ℤ cx)
gap_is k qx sd sx m n cx cd sum mean =
    by_two (k ∷ qx ∷ sd ∷ sx ∷ m ∷ n ∷ cx ∷ cd ∷ [])
    (Var 0 ⊗ (Var 1 ⊗ Var 2 ⊖ Var 3)) ((Var 2 ⊗ Var 5) ⊗ (Var 1 ⊗ Var 7 ⊖ Var 6))
    (Var 1 ⊗ Var 2) (Var 0) (Var 4 ⊕ Var 5 ⊗ Var 7)
    (Neg (Lit (pos 1))) (Var 3 ⊗ Var 0) (Var 2 ⊗ (Var 4 ⊗ Var 1 ⊕ Var 5 ⊗ Var 6)) refl sum mean

-- a and b are the gaps in x and y to the mean, f and g those to the other point
squares_are : (k t a b f g : ℤ) → k *ℤ a ≡ t *ℤ f → k *ℤ b ≡ t *ℤ g → (k *ℤ k) *ℤ ((a *ℤ a) +ℤ (b *ℤ b)) ≡ (t *ℤ t) *ℤ ((f *ℤ f) +ℤ (g *ℤ g))
squares_are k t a b f g h i =
    by_two (k ∷ t ∷ a ∷ b ∷ f ∷ g ∷ [])
    ((Var 0 ⊗ Var 0) ⊗ (Var 2 ⊗ Var 2 ⊕ Var 3 ⊗ Var 3)) ((Var 1 ⊗ Var 1) ⊗ (Var 4 ⊗ Var 4 ⊕ Var 5 ⊗ Var 5))
    (Var 0 ⊗ Var 2 ⊕ Var 1 ⊗ Var 4) (Var 0 ⊗ Var 2) (Var 1 ⊗ Var 4)
    (Var 0 ⊗ Var 3 ⊕ Var 1 ⊗ Var 5) (Var 0 ⊗ Var 3) (Var 1 ⊗ Var 5) refl h i

-- v is the square of the width, x and y the squared distances
module _ (v k n sd cd x y : ℤ) (not_negative : pos 0 ≤ℤ v) (k_positive : pos 0 <ℤ k) (sd_positive : pos 0 <ℤ sd) (cd_positive : pos 0 <ℤ cd) (y_not_negative : pos 0 ≤ℤ y)
    (squares : (k *ℤ k) *ℤ x ≡ ((sd *ℤ n) *ℤ (sd *ℤ n)) *ℤ y) (room : (v *ℤ (sd *ℤ sd)) ≤ℤ (pos 4 *ℤ x)) (near : (pos 4 *ℤ y) <ℤ (v *ℤ (cd *ℤ cd)))
  where
    abbrev names : List ℤ
    names = v ∷ k ∷ n ∷ sd ∷ cd ∷ x ∷ y ∷ []

    bound : ((k *ℤ k) *ℤ v) ≤ℤ ((n *ℤ n) *ℤ (pos 4 *ℤ y))
    bound =
        let times = mul_le (k *ℤ k) (square_nonneg k) room in
        let left : (k *ℤ k) *ℤ (v *ℤ (sd *ℤ sd)) ≡ (sd *ℤ sd) *ℤ ((k *ℤ k) *ℤ v) = by_ring names ((Var 1 ⊗ Var 1) ⊗ (Var 0 ⊗ (Var 3 ⊗ Var 3))) ((Var 3 ⊗ Var 3) ⊗ ((Var 1 ⊗ Var 1) ⊗ Var 0)) refl in
        let right : (k *ℤ k) *ℤ (pos 4 *ℤ x) ≡ (sd *ℤ sd) *ℤ ((n *ℤ n) *ℤ (pos 4 *ℤ y)) =
        by_one names ((Var 1 ⊗ Var 1) ⊗ (Lit (pos 4) ⊗ Var 5)) ((Var 3 ⊗ Var 3) ⊗ ((Var 2 ⊗ Var 2) ⊗ (Lit (pos 4) ⊗ Var 6)))
        (Lit (pos 4)) ((Var 1 ⊗ Var 1) ⊗ Var 5) (((Var 3 ⊗ Var 2) ⊗ (Var 3 ⊗ Var 2)) ⊗ Var 6) refl squares in
        cancel_le (sd *ℤ sd) ((k *ℤ k) *ℤ v) ((n *ℤ n) *ℤ (pos 4 *ℤ y)) (positive_times_positive sd_positive sd_positive) (omega (arith, lin))

    -- the other point has a weight
    weighted : pos 0 <ℤ n → (n *ℤ cd) ≤ℤ k → ⊥
    weighted some part =
        let share = nonneg_times_nonneg {x = n} {y = cd} (le_of_lt some) (le_of_lt cd_positive) in
        let squared = mul_le_mul {x = n *ℤ cd} {y = k} {u = n *ℤ cd} {v = k} share part share part in
        let times = mul_le v not_negative squared in
        let left : v *ℤ ((n *ℤ cd) *ℤ (n *ℤ cd)) ≡ (n *ℤ n) *ℤ (v *ℤ (cd *ℤ cd)) = by_ring names (Var 0 ⊗ ((Var 2 ⊗ Var 4) ⊗ (Var 2 ⊗ Var 4))) ((Var 2 ⊗ Var 2) ⊗ (Var 0 ⊗ (Var 4 ⊗ Var 4))) refl in
        let right : v *ℤ (k *ℤ k) ≡ (k *ℤ k) *ℤ v = by_ring names (Var 0 ⊗ (Var 1 ⊗ Var 1)) ((Var 1 ⊗ Var 1) ⊗ Var 0) refl in
        let most = bound in
        lt_excludes_le near (cancel_le (n *ℤ n) (v *ℤ (cd *ℤ cd)) (pos 4 *ℤ y) (positive_times_positive some some) (omega (arith, lin)))

    -- it has none
    unweighted : n ≡ pos 0 → ⊥
    unweighted none =
        let most = bound in
        let zero_is : (n *ℤ n) *ℤ (pos 4 *ℤ y) ≡ pos 0 = ap (λ z. (z *ℤ z) *ℤ (pos 4 *ℤ y)) none ∙ zero_mul (pos 4 *ℤ y) in
        let v_low = nonpos_factor (k *ℤ k) v (positive_times_positive k_positive k_positive) (omega (arith, lin)) in
        let none_v : v ≡ pos 0 = omega (arith, lin) in
        let side : v *ℤ (cd *ℤ cd) ≡ pos 0 = ap (λ z. z *ℤ (cd *ℤ cd)) none_v ∙ zero_mul (cd *ℤ cd) in
        let four = nonneg_times_nonneg {x = pos 4} {y = y} (pos_nonneg 4) y_not_negative in
        omega (arith, lin)

-- ---- points

module _ (q : Coord) (s c : Point) (w : ℕ) (h : IsBetween s (at_coord q) c) where
  abbrev sum : ℤ
  sum = pos (h.first * 1 + h.second * c.d)

  sum_is : sum ≡ pos h.first +ℤ (pos h.second *ℤ pos c.d)
  sum_is = (let one : h.first * 1 ≡ h.first = omega arith in ap (λ k. pos (k + h.second * c.d)) one) ∙ pos_add h.first (h.second * c.d) ∙ ap (λ z. pos h.first +ℤ z) (pos_mul h.second c.d)

  some : 1 ≤ h.first * 1 + h.second * c.d
  some = by h.first h.second h.weighted c.positive
    where
      by : (m n : ℕ) → 1 ≤ m + n → 1 ≤ c.d → 1 ≤ m * 1 + n * c.d
      by (suc m) n weights d = omega arith
      by zero zero weights d = absurd (omega arith)
      by zero (suc n) weights d = grind arith

  pub not_past : (pos 4 *ℤ squared_distance q c) <ℤ (pos (w * w) *ℤ pos (c.d * c.d)) → (pos (w * w) *ℤ pos (s.d * s.d)) ≤ℤ (pos 4 *ℤ squared_distance q s) → ⊥
  unfolding squared_distance
  not_past near room = by h.second refl
    where
      v : ℤ
      v = pos (w * w)

      squares : (sum *ℤ sum) *ℤ squared_distance q s ≡ ((pos s.d *ℤ pos h.second) *ℤ (pos s.d *ℤ pos h.second)) *ℤ squared_distance q c
      squares =
          squares_are sum (pos s.d *ℤ pos h.second) ((q.x *ℤ pos s.d) -ℤ s.x) ((q.y *ℤ pos s.d) -ℤ s.y) ((q.x *ℤ pos c.d) -ℤ c.x) ((q.y *ℤ pos c.d) -ℤ c.y)
          (gap_is sum q.x (pos s.d) s.x (pos h.first) (pos h.second) c.x (pos c.d) sum_is h.x)
          (gap_is sum q.y (pos s.d) s.y (pos h.first) (pos h.second) c.y (pos c.d) sum_is h.y)

      not_negative : pos 0 ≤ℤ squared_distance q c
      not_negative = (let a = square_nonneg ((q.x *ℤ pos c.d) -ℤ c.x) in let b = square_nonneg ((q.y *ℤ pos c.d) -ℤ c.y) in omega (arith, lin))

      room_there : (pos (w * w) *ℤ (pos s.d *ℤ pos s.d)) ≤ℤ (pos 4 *ℤ squared_distance q s)
      room_there = subst (λ z. (pos (w * w) *ℤ z) ≤ℤ (pos 4 *ℤ squared_distance q s)) (pos_mul s.d s.d) room

      near_there : (pos 4 *ℤ squared_distance q c) <ℤ (pos (w * w) *ℤ (pos c.d *ℤ pos c.d))
      near_there = subst (λ z. (pos 4 *ℤ squared_distance q c) <ℤ (pos (w * w) *ℤ z)) (pos_mul c.d c.d) near

      part : (pos h.second *ℤ pos c.d) ≤ℤ sum
      part = (let e = sum_is in let m = pos_nonneg h.first in omega (arith, lin))

      by : (n : ℕ) → h.second ≡ n → ⊥
      by zero none =
          unweighted (pos (w * w)) sum (pos h.second) (pos s.d) (pos c.d) (squared_distance q s) (squared_distance q c) (pos_nonneg (w * w)) (pos_positive some) (pos_positive s.positive) (pos_positive c.positive) not_negative squares room_there near_there (ap pos none)
      by (suc n) is =
          weighted (pos (w * w)) sum (pos h.second) (pos s.d) (pos c.d) (squared_distance q s) (squared_distance q c) (pos_nonneg (w * w)) (pos_positive some) (pos_positive s.positive) (pos_positive c.positive) not_negative squares room_there near_there (pos_positive (omega arith)) part
