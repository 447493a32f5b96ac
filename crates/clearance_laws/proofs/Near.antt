-- Room of near points: within s of a point with room r + s is room r.
use mathlib.Core.List.{[], ◌∷◌}
use Rattle.std.proofs.Common.{◌≡◌, sym, ◌∙◌, ap, subst, refl, ℕ, ◌+◌, ◌*◌, ◌≤◌, ◌<◌, List, ℤ, pos, neg_ℤ, ◌+ℤ◌, ◌-ℤ◌, ◌*ℤ◌, ◌≤ℤ◌, ◌<ℤ◌, ◌⊎◌, inl, inr, arith}
use Rattle.cov_types.specs.declared.coord.Coord.{Coord}
use Rattle.cov_types.specs.declared.seg.Seg.{Seg}
use Rattle.integer_laws.proofs.Cast.{pos_add, pos_mul, pos_le, pos_nonneg}
use Rattle.integer_laws.proofs.Compare.{lt_or_ge, le_or_gt, le_trans, lt_excludes_le, le_of_lt}
use Rattle.integer_laws.proofs.Order.{le_mul, mul_le, mul_le_mul, mul_lt_mul, cancel_le}
use Rattle.integer_laws.proofs.Ring.{lin, by_ring, Var, Lit, ◌⊕◌, ◌⊖◌, ◌⊗◌, Neg}
use Rattle.integer_laws.proofs.Sign.{nonneg_times_nonneg, square_nonneg}
use Rattle.plane.specs.Point.{Point}
use Rattle.distance_laws.specs.Room.{half_distance, HasHalfRoom}
use Rattle.clearance_laws.specs.Near.{IsNear, IsAsFar}

-- ---- over plain variables: the vectors g and b

-- a product whose square is at most that of a number that is not negative is at least the number's negative
not_below : (x y : ℤ) → pos 0 ≤ℤ y → (x *ℤ x) ≤ℤ (y *ℤ y) → neg_ℤ y ≤ℤ x
not_below x y h squares = elim (lt_or_ge x (neg_ℤ y)) [
  | inl less ↦ (
      let more = mul_lt_mul {x = y} {y = neg_ℤ x} {u = y} {v = neg_ℤ x} h (omega (arith, lin)) h (omega (arith, lin)) in
      let same : neg_ℤ x *ℤ neg_ℤ x ≡ x *ℤ x = by_ring (x ∷ []) (Neg (Var 0) ⊗ Neg (Var 0)) (Var 0 ⊗ Var 0) refl in
      absurd (lt_excludes_le more (subst (λ z. z ≤ℤ (y *ℤ y)) (sym same) squares))
      )
  | inr room ↦ room
]

module _ (gx gy bx by r s : ℤ) (r_not_negative : pos 0 ≤ℤ r) (s_not_negative : pos 0 ≤ℤ s) where
  abbrev g2 : ℤ
  g2 = (gx *ℤ gx) +ℤ (gy *ℤ gy)

  abbrev b2 : ℤ
  b2 = (bx *ℤ bx) +ℤ (by *ℤ by)

  abbrev dot : ℤ
  dot = (gx *ℤ bx) +ℤ (gy *ℤ by)

  abbrev names : List ℤ
  names = gx ∷ gy ∷ bx ∷ by ∷ r ∷ s ∷ []

  -- a vector below r, less one of at most s, is below r + s
  below_sum : g2 <ℤ (r *ℤ r) → b2 ≤ℤ (s *ℤ s) → (((gx -ℤ bx) *ℤ (gx -ℤ bx)) +ℤ ((gy -ℤ by) *ℤ (gy -ℤ by))) <ℤ ((r +ℤ s) *ℤ (r +ℤ s))
  below_sum near within =
      let x = square_nonneg gx in
      let y = square_nonneg gy in
      let z = square_nonneg bx in
      let t = square_nonneg by in
      let cross = square_nonneg ((gx *ℤ by) -ℤ (gy *ℤ bx)) in
      let lagrange : g2 *ℤ b2 ≡ (dot *ℤ dot) +ℤ (((gx *ℤ by) -ℤ (gy *ℤ bx)) *ℤ ((gx *ℤ by) -ℤ (gy *ℤ bx))) =
      by_ring names ((Var 0 ⊗ Var 0 ⊕ Var 1 ⊗ Var 1) ⊗ (Var 2 ⊗ Var 2 ⊕ Var 3 ⊗ Var 3))
      ((Var 0 ⊗ Var 2 ⊕ Var 1 ⊗ Var 3) ⊗ (Var 0 ⊗ Var 2 ⊕ Var 1 ⊗ Var 3) ⊕ (Var 0 ⊗ Var 3 ⊖ Var 1 ⊗ Var 2) ⊗ (Var 0 ⊗ Var 3 ⊖ Var 1 ⊗ Var 2)) refl in
      let product = mul_le_mul {x = g2} {y = r *ℤ r} {u = b2} {v = s *ℤ s} (omega (arith, lin)) (le_of_lt near) (omega (arith, lin)) within in
      let squared : (r *ℤ r) *ℤ (s *ℤ s) ≡ (r *ℤ s) *ℤ (r *ℤ s) = by_ring names ((Var 4 ⊗ Var 4) ⊗ (Var 5 ⊗ Var 5)) ((Var 4 ⊗ Var 5) ⊗ (Var 4 ⊗ Var 5)) refl in
      let low = not_below dot (r *ℤ s) (nonneg_times_nonneg r_not_negative s_not_negative) (omega (arith, lin)) in
      let left : ((gx -ℤ bx) *ℤ (gx -ℤ bx)) +ℤ ((gy -ℤ by) *ℤ (gy -ℤ by)) ≡ (g2 +ℤ b2) -ℤ (dot +ℤ dot) =
      by_ring names ((Var 0 ⊖ Var 2) ⊗ (Var 0 ⊖ Var 2) ⊕ (Var 1 ⊖ Var 3) ⊗ (Var 1 ⊖ Var 3))
      ((Var 0 ⊗ Var 0 ⊕ Var 1 ⊗ Var 1) ⊕ (Var 2 ⊗ Var 2 ⊕ Var 3 ⊗ Var 3) ⊖ ((Var 0 ⊗ Var 2 ⊕ Var 1 ⊗ Var 3) ⊕ (Var 0 ⊗ Var 2 ⊕ Var 1 ⊗ Var 3))) refl in
      let right : (r +ℤ s) *ℤ (r +ℤ s) ≡ ((r *ℤ r) +ℤ (s *ℤ s)) +ℤ ((r *ℤ s) +ℤ (r *ℤ s)) =
      by_ring names ((Var 4 ⊕ Var 5) ⊗ (Var 4 ⊕ Var 5)) ((Var 4 ⊗ Var 4 ⊕ Var 5 ⊗ Var 5) ⊕ (Var 4 ⊗ Var 5 ⊕ Var 4 ⊗ Var 5)) refl in
      omega (arith, lin)

-- ---- points

-- a number times a denominator, squared
scaled_square : (w d : ℕ) → pos (w * w) *ℤ pos (d * d) ≡ (pos w *ℤ pos d) *ℤ (pos w *ℤ pos d)
scaled_square w d =
    (λ i. pos_mul w w i *ℤ pos_mul d d i)
    ∙ by_ring (pos w ∷ pos d ∷ []) ((Var 0 ⊗ Var 0) ⊗ (Var 1 ⊗ Var 1)) ((Var 0 ⊗ Var 1) ⊗ (Var 0 ⊗ Var 1)) refl

module _ (c q : Coord) (s : ℕ) (near : IsNear c q s) where
  -- a point of which q is nearer than r is one of which c is nearer than r + s
  nearer : (r : ℕ) (p : Point) → half_distance q p <ℤ (pos (r * r) *ℤ pos (p.d * p.d)) → half_distance c p <ℤ (pos ((r + s) * (r + s)) *ℤ pos (p.d * p.d))
  unfolding half_distance
  nearer r p less =
      let d = pos p.d in
      let gx = (q.x *ℤ d) -ℤ (pos 2 *ℤ p.x) in
      let gy = (q.y *ℤ d) -ℤ (pos 2 *ℤ p.y) in
      let bx = (q.x -ℤ c.x) *ℤ d in
      let b_y = (q.y -ℤ c.y) *ℤ d in
      let less_there = subst (λ z. half_distance q p <ℤ z) (scaled_square r p.d) less in
      let times = le_mul (d *ℤ d) (square_nonneg d) near in
      let way : (bx *ℤ bx) +ℤ (b_y *ℤ b_y) ≡ (((q.x -ℤ c.x) *ℤ (q.x -ℤ c.x)) +ℤ ((q.y -ℤ c.y) *ℤ (q.y -ℤ c.y))) *ℤ (d *ℤ d) =
      by_ring (q.x ∷ c.x ∷ q.y ∷ c.y ∷ d ∷ [])
      (((Var 0 ⊖ Var 1) ⊗ Var 4) ⊗ ((Var 0 ⊖ Var 1) ⊗ Var 4) ⊕ ((Var 2 ⊖ Var 3) ⊗ Var 4) ⊗ ((Var 2 ⊖ Var 3) ⊗ Var 4))
      (((Var 0 ⊖ Var 1) ⊗ (Var 0 ⊖ Var 1) ⊕ (Var 2 ⊖ Var 3) ⊗ (Var 2 ⊖ Var 3)) ⊗ (Var 4 ⊗ Var 4)) refl in
      let bound : pos (s * s) *ℤ (d *ℤ d) ≡ (pos s *ℤ d) *ℤ (pos s *ℤ d) = ap (λ z. pos (s * s) *ℤ z) (sym (pos_mul p.d p.d)) ∙ scaled_square s p.d in
      let below = below_sum gx gy bx b_y (pos r *ℤ d) (pos s *ℤ d) (nonneg_times_nonneg (pos_nonneg r) (pos_nonneg p.d)) (nonneg_times_nonneg (pos_nonneg s) (pos_nonneg p.d)) less_there (omega (arith, lin)) in
      let sum : pos ((r + s) * (r + s)) *ℤ pos (p.d * p.d) ≡ ((pos r *ℤ d) +ℤ (pos s *ℤ d)) *ℤ ((pos r *ℤ d) +ℤ (pos s *ℤ d)) =
      scaled_square (r + s) p.d ∙ ap (λ z. (z *ℤ d) *ℤ (z *ℤ d)) (pos_add r s)
      ∙ by_ring (pos r ∷ pos s ∷ d ∷ []) (((Var 0 ⊕ Var 1) ⊗ Var 2) ⊗ ((Var 0 ⊕ Var 1) ⊗ Var 2)) ((Var 0 ⊗ Var 2 ⊕ Var 1 ⊗ Var 2) ⊗ (Var 0 ⊗ Var 2 ⊕ Var 1 ⊗ Var 2)) refl in
      let same : half_distance c p ≡ ((gx -ℤ bx) *ℤ (gx -ℤ bx)) +ℤ ((gy -ℤ b_y) *ℤ (gy -ℤ b_y)) =
      by_ring (q.x ∷ c.x ∷ q.y ∷ c.y ∷ d ∷ p.x ∷ p.y ∷ [])
      ((Var 1 ⊗ Var 4 ⊖ Lit (pos 2) ⊗ Var 5) ⊗ (Var 1 ⊗ Var 4 ⊖ Lit (pos 2) ⊗ Var 5) ⊕ (Var 3 ⊗ Var 4 ⊖ Lit (pos 2) ⊗ Var 6) ⊗ (Var 3 ⊗ Var 4 ⊖ Lit (pos 2) ⊗ Var 6))
      (((Var 0 ⊗ Var 4 ⊖ Lit (pos 2) ⊗ Var 5) ⊖ (Var 0 ⊖ Var 1) ⊗ Var 4) ⊗ ((Var 0 ⊗ Var 4 ⊖ Lit (pos 2) ⊗ Var 5) ⊖ (Var 0 ⊖ Var 1) ⊗ Var 4)
      ⊕ ((Var 2 ⊗ Var 4 ⊖ Lit (pos 2) ⊗ Var 6) ⊖ (Var 2 ⊖ Var 3) ⊗ Var 4) ⊗ ((Var 2 ⊗ Var 4 ⊖ Lit (pos 2) ⊗ Var 6) ⊖ (Var 2 ⊖ Var 3) ⊗ Var 4)) refl in
      subst (λ z. z <ℤ (pos ((r + s) * (r + s)) *ℤ pos (p.d * p.d))) (sym same)
      (subst (λ z. (((gx -ℤ bx) *ℤ (gx -ℤ bx)) +ℤ ((gy -ℤ b_y) *ℤ (gy -ℤ b_y))) <ℤ z) (sym sum) below)

  pub room_near : (r : ℕ) (e : Seg) → HasHalfRoom c (r + s) e → HasHalfRoom q r e
  room_near r e room p on = elim (lt_or_ge (half_distance q p) (pos (r * r) *ℤ pos (p.d * p.d))) [
    | inl less ↦ absurd (lt_excludes_le (nearer r p less) (room p on))
    | inr enough ↦ enough
  ]

pub is_near-sym : (c q : Coord) (s : ℕ) → IsNear c q s → IsNear q c s
is_near-sym c q s near =
    subst (λ z. z ≤ℤ pos (s * s))
    (by_ring (c.x ∷ c.y ∷ q.x ∷ q.y ∷ [])
    ((Var 2 ⊖ Var 0) ⊗ (Var 2 ⊖ Var 0) ⊕ (Var 3 ⊖ Var 1) ⊗ (Var 3 ⊖ Var 1)) ((Var 0 ⊖ Var 2) ⊗ (Var 0 ⊖ Var 2) ⊕ (Var 1 ⊖ Var 3) ⊗ (Var 1 ⊖ Var 3)) refl)
    near

-- ---- less room

pub less_room : (c : Coord) (v w : ℕ) (e : Seg) → v ≤ w → HasHalfRoom c w e → HasHalfRoom c v e
less_room c v w e less room p on =
    le_trans
    (le_mul (pos (p.d * p.d)) (pos_nonneg (p.d * p.d)) ((pos_le (v * v) (w * w)).1 (squares_le v w less)))
    (room p on)
  where
    squares_le : (v w : ℕ) → v ≤ w → v * v ≤ w * w
    squares_le v w less =
        let signed = mul_le_mul {x = pos v} {y = pos w} {u = pos v} {v = pos w} (pos_nonneg v) ((pos_le v w).1 less) (pos_nonneg v) ((pos_le v w).1 less) in
        let left = pos_mul v v in
        let right = pos_mul w w in
        (pos_le (v * v) (w * w)).0 (omega (arith, lin))

-- ---- bounds

pub le_or_more : (a b : ℕ) → (a ≤ b) ⊎ (b < a)
le_or_more a b = elim (le_or_gt (pos a) (pos b)) [
  | inl le ↦ inl ((pos_le a b).0 le)
  | inr gt ↦ inr (omega (arith, lin))
]

pub room_bound : (c q : Coord) (r s v : ℕ) (f : Seg) → IsNear c q s → (HasHalfRoom c (r + 1) f → ⊥) → HasHalfRoom q v f → v ≤ r + s
room_bound c q r s v f near none room = by (le_or_more v (r + s))
  where
    by : (v ≤ r + s) ⊎ (r + s < v) → v ≤ r + s
    by (inl le) = le
    by (inr more) = absurd (none (room_near q c s (is_near-sym c q s near) (r + 1) f (less_room q (r + 1 + s) v f (omega arith) room)))

-- an edge from which c has room t + 2s is not needed within s of it, where some edge is nearer than t
pub handed_down : (c q : Coord) (s t w : ℕ) (e f : Seg) → IsNear c q s → (HasHalfRoom c t f → ⊥) → HasHalfRoom c (t + 2 * s) e → HasHalfRoom q w f → HasHalfRoom q w e
handed_down c q s t w e f near none far room = by (le_or_more w (t + s))
  where
    by : (w ≤ t + s) ⊎ (t + s < w) → HasHalfRoom q w e
    by (inl le) = less_room q w (t + s) e le (room_near c q s near (t + s) e (less_room c (t + s + s) (t + 2 * s) e (omega arith) far))
    by (inr more) = absurd (none (room_near q c s (is_near-sym c q s near) t f (less_room q (t + s) w f (omega arith) room)))

-- nor for what is said by squares
pub handed_down-far : (c q : Coord) (s t : ℕ) (n m : ℤ) (e f : Seg) → IsNear c q s → (HasHalfRoom c t f → ⊥) → HasHalfRoom c (t + 2 * s) e → pos 0 <ℤ m → IsAsFar q n m f → IsAsFar q n m e
handed_down-far c q s t n m e f near none far positive is_far = by (le_or_gt n (m *ℤ v))
  where
    v : ℤ
    v = pos ((t + s) * (t + s))

    moved : (d : ℤ) → m *ℤ (v *ℤ d) ≡ (m *ℤ v) *ℤ d
    moved d = by_ring (m ∷ v ∷ d ∷ []) (Var 0 ⊗ (Var 1 ⊗ Var 2)) ((Var 0 ⊗ Var 1) ⊗ Var 2) refl

    by : (n ≤ℤ (m *ℤ v)) ⊎ ((m *ℤ v) <ℤ n) → IsAsFar q n m e
    by (inl le) = λ r on. (
        let room = room_near c q s near (t + s) e (less_room c (t + s + s) (t + 2 * s) e (omega arith) far) r on in
        let times = mul_le m (le_of_lt positive) room in
        let less = le_mul (pos (r.d * r.d)) (pos_nonneg (r.d * r.d)) le in
        let same = moved (pos (r.d * r.d)) in
        omega (arith, lin))
    by (inr more) = absurd (none (room_near q c s (is_near-sym c q s near) t f (λ r on. (
        let less = le_mul (pos (r.d * r.d)) (pos_nonneg (r.d * r.d)) (le_of_lt more) in
        let at = is_far r on in
        let same = moved (pos (r.d * r.d)) in
        cancel_le m (v *ℤ pos (r.d * r.d)) (half_distance q r) positive (omega (arith, lin))))))
