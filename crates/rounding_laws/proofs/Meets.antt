-- Which pixels a segment meets: by their centres.
use mathlib.Core.List.{[], ◌∷◌}
use Rattle.std.proofs.Common.{◌≡◌, inl, inr, refl, ◌∙◌, ap, ◌+◌, ◌≤◌, ℤ, pos, negsuc, neg_ℤ, ◌+ℤ◌, ◌-ℤ◌, ◌*ℤ◌, ◌<ℤ◌, ◌≤ℤ◌, ◌↔◌, arith}
use Rattle.integer_laws.proofs.Ring.{lin, by_ring, by_one, by_two, Var, Lit, ◌⊕◌, ◌⊖◌, ◌⊗◌, Neg, mul_one, mul_add, add_mul, sub_mul, neg_mul, mul_neg, pos_times}
use Rattle.integer_laws.proofs.Compare.{lt_or_ge, le_of_lt, le_cases, le_refl}
use Rattle.integer_laws.proofs.Order.{mul_le, mul_lt, cancel_lt_right, cancel_le_right}
use Rattle.cov_types.specs.declared.coord.Coord.{Coord}
use Rattle.cov_types.specs.declared.seg.Seg.{Seg}
use Rattle.cov_types.proofs.Order.{cases_before}
use Rattle.plane.specs.Point.{Point, at_coord}
use Rattle.plane.specs.Segment.{IsOn, turn_of, side}
use Rattle.plane.specs.Snapping.{IsInPixel, MeetsPixel}
use Rattle.plane.proofs.Points.{d_positive}
use Rattle.plane.proofs.Forms.{form, form_not_negative-between, form_not_positive-between}
use Rattle.plane.proofs.Sides.{side_zero-on}
use Rattle.rounding_laws.specs.Formulas.{reach_up, reach_down, IsBeside, IsBesideUp, IsBesideDown}
use Rattle.rounding_laws.proofs.Near.{Near, rounds_above, rounds_under, pixel-near, near-pixel}
use Rattle.rounding_laws.proofs.Means.{mean, mean-between}
use Rattle.rounding_laws.proofs.First.{goes_right}

-- ---- beside: the point on a diagonal of the pixel is a witness

-- the mean of the ends with the whole weights i and j
pub record IsMeanOfEnds (s : Seg) (i j : ℤ) (p : Point) : Type 0 where
  pub on : IsOn s p
  pub x : p.x ≡ (i *ℤ s.lo.x) +ℤ (j *ℤ s.hi.x)
  pub y : p.y ≡ (i *ℤ s.lo.y) +ℤ (j *ℤ s.hi.y)
  pub d : pos p.d ≡ i +ℤ j

mean_of_ends : (s : Seg) (i j : ℤ) → pos 0 ≤ℤ i → pos 0 ≤ℤ j → pos 0 <ℤ (i +ℤ j) → (p : Point) × IsMeanOfEnds s i j p
mean_of_ends s (pos m) (pos n) hi hj positive =
    let weighted : 1 ≤ m + n = omega (arith, lin) in (
      mean (at_coord s.lo) (at_coord s.hi) m n weighted,
      record {
        on = mean-between (at_coord s.lo) (at_coord s.hi) m n weighted;
        x = refl;
        y = refl;
        d = omega (arith, lin);
      },
    )
mean_of_ends s (pos m) (negsuc n) hi hj positive = absurd hj.le
mean_of_ends s (negsuc m) j hi hj positive = absurd hi.le

-- over plain variables: the mean on the diagonal through r that goes down, of a segment that goes up, and its gap from r in x and in y
-- is the turn of r
diagonal_x : (lx ly hx hy rx ry : ℤ)
    → (((((hx +ℤ hy) -ℤ (rx +ℤ ry)) *ℤ lx) +ℤ (((rx +ℤ ry) -ℤ (lx +ℤ ly)) *ℤ hx)) -ℤ (rx *ℤ ((hx -ℤ lx) +ℤ (hy -ℤ ly))))
    ≡ ((hx -ℤ lx) *ℤ (ry -ℤ ly)) -ℤ ((hy -ℤ ly) *ℤ (rx -ℤ lx))
diagonal_x lx ly hx hy rx ry =
    by_ring (lx ∷ ly ∷ hx ∷ hy ∷ rx ∷ ry ∷ [])
    (((Var 2 ⊕ Var 3) ⊖ (Var 4 ⊕ Var 5)) ⊗ Var 0 ⊕ ((Var 4 ⊕ Var 5) ⊖ (Var 0 ⊕ Var 1)) ⊗ Var 2 ⊖ Var 4 ⊗ ((Var 2 ⊖ Var 0) ⊕ (Var 3 ⊖ Var 1)))
    ((Var 2 ⊖ Var 0) ⊗ (Var 5 ⊖ Var 1) ⊖ (Var 3 ⊖ Var 1) ⊗ (Var 4 ⊖ Var 0)) refl

diagonal_y : (lx ly hx hy rx ry : ℤ)
    → (((((hx +ℤ hy) -ℤ (rx +ℤ ry)) *ℤ ly) +ℤ (((rx +ℤ ry) -ℤ (lx +ℤ ly)) *ℤ hy)) -ℤ (ry *ℤ ((hx -ℤ lx) +ℤ (hy -ℤ ly))))
    ≡ neg_ℤ (((hx -ℤ lx) *ℤ (ry -ℤ ly)) -ℤ ((hy -ℤ ly) *ℤ (rx -ℤ lx)))
diagonal_y lx ly hx hy rx ry =
    by_ring (lx ∷ ly ∷ hx ∷ hy ∷ rx ∷ ry ∷ [])
    (((Var 2 ⊕ Var 3) ⊖ (Var 4 ⊕ Var 5)) ⊗ Var 1 ⊕ ((Var 4 ⊕ Var 5) ⊖ (Var 0 ⊕ Var 1)) ⊗ Var 3 ⊖ Var 5 ⊗ ((Var 2 ⊖ Var 0) ⊕ (Var 3 ⊖ Var 1)))
    (Neg ((Var 2 ⊖ Var 0) ⊗ (Var 5 ⊖ Var 1) ⊖ (Var 3 ⊖ Var 1) ⊗ (Var 4 ⊖ Var 0))) refl

-- the same on the diagonal that goes up, of a segment that goes down
other_x : (lx ly hx hy rx ry : ℤ)
    → (((((hx -ℤ hy) -ℤ (rx -ℤ ry)) *ℤ lx) +ℤ (((rx -ℤ ry) -ℤ (lx -ℤ ly)) *ℤ hx)) -ℤ (rx *ℤ ((hx -ℤ lx) +ℤ (ly -ℤ hy))))
    ≡ neg_ℤ (((hx -ℤ lx) *ℤ (ry -ℤ ly)) -ℤ ((hy -ℤ ly) *ℤ (rx -ℤ lx)))
other_x lx ly hx hy rx ry =
    by_ring (lx ∷ ly ∷ hx ∷ hy ∷ rx ∷ ry ∷ [])
    (((Var 2 ⊖ Var 3) ⊖ (Var 4 ⊖ Var 5)) ⊗ Var 0 ⊕ ((Var 4 ⊖ Var 5) ⊖ (Var 0 ⊖ Var 1)) ⊗ Var 2 ⊖ Var 4 ⊗ ((Var 2 ⊖ Var 0) ⊕ (Var 1 ⊖ Var 3)))
    (Neg ((Var 2 ⊖ Var 0) ⊗ (Var 5 ⊖ Var 1) ⊖ (Var 3 ⊖ Var 1) ⊗ (Var 4 ⊖ Var 0))) refl

other_y : (lx ly hx hy rx ry : ℤ)
    → (((((hx -ℤ hy) -ℤ (rx -ℤ ry)) *ℤ ly) +ℤ (((rx -ℤ ry) -ℤ (lx -ℤ ly)) *ℤ hy)) -ℤ (ry *ℤ ((hx -ℤ lx) +ℤ (ly -ℤ hy))))
    ≡ neg_ℤ (((hx -ℤ lx) *ℤ (ry -ℤ ly)) -ℤ ((hy -ℤ ly) *ℤ (rx -ℤ lx)))
other_y lx ly hx hy rx ry =
    by_ring (lx ∷ ly ∷ hx ∷ hy ∷ rx ∷ ry ∷ [])
    (((Var 2 ⊖ Var 3) ⊖ (Var 4 ⊖ Var 5)) ⊗ Var 1 ⊕ ((Var 4 ⊖ Var 5) ⊖ (Var 0 ⊖ Var 1)) ⊗ Var 3 ⊖ Var 5 ⊗ ((Var 2 ⊖ Var 0) ⊕ (Var 1 ⊖ Var 3)))
    (Neg ((Var 2 ⊖ Var 0) ⊗ (Var 5 ⊖ Var 1) ⊖ (Var 3 ⊖ Var 1) ⊗ (Var 4 ⊖ Var 0))) refl

-- over plain variables: a number whose gap from r·m is t or -t rounds to r
gap_rounds : (r v m t k d : ℤ) → v ≡ k → d ≡ m → k -ℤ (r *ℤ m) ≡ t → neg_ℤ m <ℤ (pos 2 *ℤ t) → (pos 2 *ℤ t) <ℤ m → Near (r *ℤ d) v d
gap_rounds r v m t k d ev ed gap low high =
    let product = ap (λ z. r *ℤ z) ed in
    record { low = omega (arith, lin, pos_times 2 t); high = omega (arith, lin, pos_times 2 t) }

gap_rounds_back : (r v m t k d : ℤ) → v ≡ k → d ≡ m → k -ℤ (r *ℤ m) ≡ neg_ℤ t → neg_ℤ m <ℤ (pos 2 *ℤ t) → (pos 2 *ℤ t) ≤ℤ m → Near (r *ℤ d) v d
gap_rounds_back r v m t k d ev ed gap low high =
    let product = ap (λ z. r *ℤ z) ed in
    record { low = omega (arith, lin, pos_times 2 t); high = omega (arith, lin, pos_times 2 t) }

beside_up_meets : (s : Seg) (r : Coord) → s.lo.x ≤ℤ r.x → r.x ≤ℤ s.hi.x → IsBesideUp s r → MeetsPixel s r
unfolding turn_of
beside_up_meets s r from to h =
    let up = h.up in
    let low = h.from in
    let high = h.to in
    let right = h.right in
    let left = h.left in
    let i = (s.hi.x +ℤ s.hi.y) -ℤ (r.x +ℤ r.y) in
    let j = (r.x +ℤ r.y) -ℤ (s.lo.x +ℤ s.lo.y) in
    let t = turn_of s.lo s.hi r in
    let found = mean_of_ends s i j (omega (arith, lin)) (omega (arith, lin)) (omega (arith, lin, pos_times 2 t)) in
    let p = found.0 in
    let total : pos p.d ≡ reach_up s = found.1.d ∙ omega (arith, lin) in (
      p,
      (
        found.1.on,
        near-pixel p r
            (gap_rounds r.x p.x (reach_up s) t ((i *ℤ s.lo.x) +ℤ (j *ℤ s.hi.x)) (pos p.d) found.1.x total (diagonal_x s.lo.x s.lo.y s.hi.x s.hi.y r.x r.y) right left)
            (gap_rounds_back r.y p.y (reach_up s) t ((i *ℤ s.lo.y) +ℤ (j *ℤ s.hi.y)) (pos p.d) found.1.y total (diagonal_y s.lo.x s.lo.y s.hi.x s.hi.y r.x r.y) right (le_of_lt left)),
      ),
    )

beside_down_meets : (s : Seg) (r : Coord) → s.lo.x ≤ℤ r.x → r.x ≤ℤ s.hi.x → IsBesideDown s r → MeetsPixel s r
unfolding turn_of
beside_down_meets s r from to h =
    let down = h.down in
    let high = h.from in
    let low = h.to in
    let right = h.right in
    let left = h.left in
    let i = (s.hi.x -ℤ s.hi.y) -ℤ (r.x -ℤ r.y) in
    let j = (r.x -ℤ r.y) -ℤ (s.lo.x -ℤ s.lo.y) in
    let t = turn_of s.lo s.hi r in
    let found = mean_of_ends s i j (omega (arith, lin)) (omega (arith, lin)) (omega (arith, lin, pos_times 2 t)) in
    let p = found.0 in
    let total : pos p.d ≡ reach_down s = found.1.d ∙ omega (arith, lin) in (
      p,
      (
        found.1.on,
        near-pixel p r
            (gap_rounds_back r.x p.x (reach_down s) t ((i *ℤ s.lo.x) +ℤ (j *ℤ s.hi.x)) (pos p.d) found.1.x total (other_x s.lo.x s.lo.y s.hi.x s.hi.y r.x r.y) right left)
            (gap_rounds_back r.y p.y (reach_down s) t ((i *ℤ s.lo.y) +ℤ (j *ℤ s.hi.y)) (pos p.d) found.1.y total (other_y s.lo.x s.lo.y s.hi.x s.hi.y r.x r.y) right left),
      ),
    )

beside_meets : (s : Seg) (r : Coord) → IsBeside s r → MeetsPixel s r
beside_meets s r h = elim h.within [ inl up ↦ beside_up_meets s r h.from h.to up | inr down ↦ beside_down_meets s r h.from h.to down ]

-- ---- the centre of a pixel that is met is beside the segment

-- the coordinates as forms, above and below a whole number
x_above : (l : ℤ) (p : Point) → form (pos 1) (pos 0) (neg_ℤ l) p ≡ p.x -ℤ (l *ℤ pos p.d)
unfolding form
x_above l p = by_ring (p.x ∷ p.y ∷ pos p.d ∷ l ∷ []) ((Lit (pos 1) ⊗ Var 0 ⊕ Lit (pos 0) ⊗ Var 1) ⊕ Neg (Var 3) ⊗ Var 2) (Var 0 ⊖ Var 3 ⊗ Var 2) refl

y_above : (l : ℤ) (p : Point) → form (pos 0) (pos 1) (neg_ℤ l) p ≡ p.y -ℤ (l *ℤ pos p.d)
unfolding form
y_above l p = by_ring (p.x ∷ p.y ∷ pos p.d ∷ l ∷ []) ((Lit (pos 0) ⊗ Var 0 ⊕ Lit (pos 1) ⊗ Var 1) ⊕ Neg (Var 3) ⊗ Var 2) (Var 1 ⊖ Var 3 ⊗ Var 2) refl

module _ (s : Seg) (p : Point) (on : IsOn s p) where
  -- a bound of both ends is one of the point
  x_from : (l : ℤ) → l ≤ℤ s.lo.x → l ≤ℤ s.hi.x → (l *ℤ pos p.d) ≤ℤ p.x
  x_from l lo hi =
      let at = x_above l in
      let above = form_not_negative-between (pos 1) (pos 0) (neg_ℤ l) p (at_coord s.lo) (at_coord s.hi) on
      (omega (arith, lin, at (at_coord s.lo), mul_one l)) (omega (arith, lin, at (at_coord s.hi), mul_one l)) in
      omega (arith, lin, at p)

  x_to : (l : ℤ) → s.lo.x ≤ℤ l → s.hi.x ≤ℤ l → p.x ≤ℤ (l *ℤ pos p.d)
  x_to l lo hi =
      let at = x_above l in
      let below = form_not_positive-between (pos 1) (pos 0) (neg_ℤ l) p (at_coord s.lo) (at_coord s.hi) on
      (omega (arith, lin, at (at_coord s.lo), mul_one l)) (omega (arith, lin, at (at_coord s.hi), mul_one l)) in
      omega (arith, lin, at p)

  y_from : (l : ℤ) → l ≤ℤ s.lo.y → l ≤ℤ s.hi.y → (l *ℤ pos p.d) ≤ℤ p.y
  y_from l lo hi =
      let at = y_above l in
      let above = form_not_negative-between (pos 0) (pos 1) (neg_ℤ l) p (at_coord s.lo) (at_coord s.hi) on
      (omega (arith, lin, at (at_coord s.lo), mul_one l)) (omega (arith, lin, at (at_coord s.hi), mul_one l)) in
      omega (arith, lin, at p)

  y_to : (l : ℤ) → s.lo.y ≤ℤ l → s.hi.y ≤ℤ l → p.y ≤ℤ (l *ℤ pos p.d)
  y_to l lo hi =
      let at = y_above l in
      let below = form_not_positive-between (pos 0) (pos 1) (neg_ℤ l) p (at_coord s.lo) (at_coord s.hi) on
      (omega (arith, lin, at (at_coord s.lo), mul_one l)) (omega (arith, lin, at (at_coord s.hi), mul_one l)) in
      omega (arith, lin, at p)

-- the turn of r by the gaps from a point of the segment to r, times the point's denominator
turn_gaps : (s : Seg) (p : Point) (r : Coord) → side s p ≡ pos 0
    → turn_of s.lo s.hi r *ℤ pos p.d ≡ ((s.hi.x -ℤ s.lo.x) *ℤ ((r.y *ℤ pos p.d) -ℤ p.y)) +ℤ ((s.lo.y -ℤ s.hi.y) *ℤ ((r.x *ℤ pos p.d) -ℤ p.x))
unfolding turn_of side
turn_gaps s p r on =
    by_one (s.lo.x ∷ s.lo.y ∷ s.hi.x ∷ s.hi.y ∷ p.x ∷ p.y ∷ pos p.d ∷ r.x ∷ r.y ∷ [])
    (((Var 2 ⊖ Var 0) ⊗ (Var 8 ⊖ Var 1) ⊖ (Var 3 ⊖ Var 1) ⊗ (Var 7 ⊖ Var 0)) ⊗ Var 6)
    ((Var 2 ⊖ Var 0) ⊗ (Var 8 ⊗ Var 6 ⊖ Var 5) ⊕ (Var 1 ⊖ Var 3) ⊗ (Var 7 ⊗ Var 6 ⊖ Var 4))
    (Lit (pos 1)) ((Var 2 ⊖ Var 0) ⊗ (Var 5 ⊖ Var 1 ⊗ Var 6) ⊖ (Var 3 ⊖ Var 1) ⊗ (Var 4 ⊖ Var 0 ⊗ Var 6)) (Lit (pos 0)) refl on

-- over plain variables: twice a product of a factor that is not negative and a gap that rounds to nothing
gap_high : (k g d : ℤ) → pos 0 ≤ℤ k → (g +ℤ g) ≤ℤ d → ((k *ℤ g) +ℤ (k *ℤ g)) ≤ℤ (k *ℤ d)
gap_high k g d h le = omega (arith, lin, mul_add k g g, mul_le k h le)

gap_low : (k g d : ℤ) → pos 0 ≤ℤ k → neg_ℤ d ≤ℤ (g +ℤ g) → neg_ℤ (k *ℤ d) ≤ℤ ((k *ℤ g) +ℤ (k *ℤ g))
gap_low k g d h le = omega (arith, lin, mul_add k g g, mul_neg k d, mul_le k h le)

gap_low_strict : (k g d : ℤ) → pos 0 <ℤ k → neg_ℤ d <ℤ (g +ℤ g) → neg_ℤ (k *ℤ d) <ℤ ((k *ℤ g) +ℤ (k *ℤ g))
gap_low_strict k g d h l = omega (arith, lin, mul_add k g g, mul_neg k d, mul_lt k h l)

-- over plain variables: t·d is a·g + b·h, for gaps g and h between -d/2 and d/2
module _ (t d a b g h : ℤ) (positive : pos 0 <ℤ d) (is : t *ℤ d ≡ (a *ℤ g) +ℤ (b *ℤ h)) where
  twice_turn : (pos 2 *ℤ t) *ℤ d ≡ (t *ℤ d) +ℤ (t *ℤ d)
  twice_turn = by_ring (t ∷ d ∷ []) ((Lit (pos 2) ⊗ Var 0) ⊗ Var 1) (Var 0 ⊗ Var 1 ⊕ Var 0 ⊗ Var 1) refl

  -- a segment that goes down: b is positive
  down_right : pos 0 ≤ℤ a → pos 0 <ℤ b → neg_ℤ d <ℤ (g +ℤ g) → neg_ℤ d <ℤ (h +ℤ h) → neg_ℤ (a +ℤ b) <ℤ (pos 2 *ℤ t)
  down_right ha hb lg lh =
      let first = gap_low a g d ha (le_of_lt lg) in
      let second = gap_low_strict b h d hb lh in
      cancel_lt_right d (neg_ℤ (a +ℤ b)) (pos 2 *ℤ t) (le_of_lt positive) (omega (arith, lin, twice_turn, neg_mul (a +ℤ b) d, add_mul a b d))

  down_left : pos 0 ≤ℤ a → pos 0 ≤ℤ b → (g +ℤ g) ≤ℤ d → (h +ℤ h) ≤ℤ d → (pos 2 *ℤ t) ≤ℤ (a +ℤ b)
  down_left ha hb lg lh =
      let first = gap_high a g d ha lg in
      let second = gap_high b h d hb lh in
      cancel_le_right d (pos 2 *ℤ t) (a +ℤ b) positive (omega (arith, lin, twice_turn, add_mul a b d))

  -- one that goes up: b is negative, and a positive
  up_right : pos 0 <ℤ a → b ≤ℤ pos 0 → neg_ℤ d <ℤ (g +ℤ g) → (h +ℤ h) ≤ℤ d → neg_ℤ (a -ℤ b) <ℤ (pos 2 *ℤ t)
  up_right ha hb lg lh =
      let first = gap_low_strict a g d ha lg in
      let second = gap_high (neg_ℤ b) h d (omega (arith, lin)) lh in
      cancel_lt_right d (neg_ℤ (a -ℤ b)) (pos 2 *ℤ t) (le_of_lt positive) (omega (arith, lin, twice_turn, neg_mul (a -ℤ b) d, sub_mul a b d, neg_mul b h, neg_mul b d))

  up_left : pos 0 ≤ℤ a → b <ℤ pos 0 → (g +ℤ g) ≤ℤ d → neg_ℤ d <ℤ (h +ℤ h) → (pos 2 *ℤ t) <ℤ (a -ℤ b)
  up_left ha hb lg lh =
      let first = gap_high a g d ha lg in
      let second = gap_low_strict (neg_ℤ b) h d (omega (arith, lin)) lh in
      cancel_lt_right d (pos 2 *ℤ t) (a -ℤ b) (le_of_lt positive) (omega (arith, lin, twice_turn, sub_mul a b d, neg_mul b h, neg_mul b d))

-- the turn of a point level with a level segment, or upright with an upright one
level_turn : (s : Seg) (r : Coord) → s.lo.y ≡ s.hi.y → r.y ≡ s.lo.y → turn_of s.lo s.hi r ≡ pos 0
unfolding turn_of
level_turn s r level same =
    by_two (s.lo.x ∷ s.lo.y ∷ s.hi.x ∷ s.hi.y ∷ r.x ∷ r.y ∷ [])
    ((Var 2 ⊖ Var 0) ⊗ (Var 5 ⊖ Var 1) ⊖ (Var 3 ⊖ Var 1) ⊗ (Var 4 ⊖ Var 0)) (Lit (pos 0))
    (Var 4 ⊖ Var 0) (Var 1) (Var 3) (Var 2 ⊖ Var 0) (Var 5) (Var 1) refl level same

upright_turn : (s : Seg) (r : Coord) → s.lo.x ≡ s.hi.x → r.x ≡ s.lo.x → turn_of s.lo s.hi r ≡ pos 0
unfolding turn_of
upright_turn s r level same =
    by_two (s.lo.x ∷ s.lo.y ∷ s.hi.x ∷ s.hi.y ∷ r.x ∷ r.y ∷ [])
    ((Var 2 ⊖ Var 0) ⊗ (Var 5 ⊖ Var 1) ⊖ (Var 3 ⊖ Var 1) ⊗ (Var 4 ⊖ Var 0)) (Lit (pos 0))
    (Neg (Var 5 ⊖ Var 1)) (Var 0) (Var 2) (Neg (Var 3 ⊖ Var 1)) (Var 4) (Var 0) refl level same

-- a segment that goes neither left nor down has a positive reach
reach_positive : (s : Seg) → s.lo.y ≤ℤ s.hi.y → pos 0 <ℤ reach_up s
reach_positive s up =
    elim (cases_before s.lo s.hi s.ordered) [
      | inl l ↦ omega (arith, lin)
      | inr same ↦ (let e = same.0 in let l = same.1 in omega (arith, lin))
    ]

module _ (s : Seg) (r : Coord) (p : Point) (on : IsOn s p) (inside : IsInPixel p r) where
  abbrev gap_of_x : ℤ
  gap_of_x = (r.x *ℤ pos p.d) -ℤ p.x

  abbrev gap_of_y : ℤ
  gap_of_y = (r.y *ℤ pos p.d) -ℤ p.y

  near_x : Near (r.x *ℤ pos p.d) p.x (pos p.d)
  near_x = (pixel-near p r inside).0

  near_y : Near (r.y *ℤ pos p.d) p.y (pos p.d)
  near_y = (pixel-near p r inside).1

  r_from : s.lo.x ≤ℤ r.x
  r_from = rounds_above s.lo.x r.x p.x (pos p.d) (d_positive p) (x_from s p on s.lo.x (le_refl s.lo.x) (goes_right s)) near_x

  r_to : r.x ≤ℤ s.hi.x
  r_to = rounds_under s.hi.x r.x p.x (pos p.d) (d_positive p) (x_to s p on s.hi.x (goes_right s) (le_refl s.hi.x)) near_x

  turn_is : turn_of s.lo s.hi r *ℤ pos p.d ≡ ((s.hi.x -ℤ s.lo.x) *ℤ gap_of_y) +ℤ ((s.lo.y -ℤ s.hi.y) *ℤ gap_of_x)
  turn_is = turn_gaps s p r (side_zero-on s p on)

  meets_down : s.hi.y <ℤ s.lo.y → IsBesideDown s r
  meets_down down =
      let x_low = near_x.low in
      let x_high = near_x.high in
      let y_low = near_y.low in
      let y_high = near_y.high in
      let right = goes_right s in
      record {
        down = down;
        from = rounds_under s.lo.y r.y p.y (pos p.d) (d_positive p) (y_to s p on s.lo.y (le_refl s.lo.y) (le_of_lt down)) near_y;
        to = rounds_above s.hi.y r.y p.y (pos p.d) (d_positive p) (y_from s p on s.hi.y (le_of_lt down) (le_refl s.hi.y)) near_y;
        right = down_right (turn_of s.lo s.hi r) (pos p.d) (s.hi.x -ℤ s.lo.x) (s.lo.y -ℤ s.hi.y) gap_of_y gap_of_x (d_positive p) turn_is
            (omega (arith, lin)) (omega (arith, lin)) (omega (arith, lin)) (omega (arith, lin));
        left = down_left (turn_of s.lo s.hi r) (pos p.d) (s.hi.x -ℤ s.lo.x) (s.lo.y -ℤ s.hi.y) gap_of_y gap_of_x (d_positive p) turn_is
            (omega (arith, lin)) (omega (arith, lin)) (omega (arith, lin)) (omega (arith, lin));
      }

  module _ (up : s.lo.y ≤ℤ s.hi.y) where
    y_from_lo : s.lo.y ≤ℤ r.y
    y_from_lo = rounds_above s.lo.y r.y p.y (pos p.d) (d_positive p) (y_from s p on s.lo.y (le_refl s.lo.y) up) near_y

    y_to_hi : r.y ≤ℤ s.hi.y
    y_to_hi = rounds_under s.hi.y r.y p.y (pos p.d) (d_positive p) (y_to s p on s.hi.y up (le_refl s.hi.y)) near_y

    right_up : neg_ℤ (reach_up s) <ℤ (pos 2 *ℤ turn_of s.lo s.hi r)
    right_up =
        let t = turn_of s.lo s.hi r in
        let x_low = near_x.low in
        let y_high = near_y.high in
        elim (le_cases (goes_right s)) [
          | inl right ↦ (
              let bound = up_right t (pos p.d) (s.hi.x -ℤ s.lo.x) (s.lo.y -ℤ s.hi.y) gap_of_y gap_of_x (d_positive p) turn_is
              (omega (arith, lin)) (omega (arith, lin)) (omega (arith, lin)) (omega (arith, lin)) in
              omega (arith, lin))
          | inr upright ↦ (
              let from = r_from in
              let to = r_to in
              let none = upright_turn s r upright (omega (arith, lin)) in
              omega (arith, lin, pos_times 2 t, reach_positive s up))
        ]

    left_up : (pos 2 *ℤ turn_of s.lo s.hi r) <ℤ reach_up s
    left_up =
        let t = turn_of s.lo s.hi r in
        let x_high = near_x.high in
        let y_low = near_y.low in
        let right = goes_right s in
        elim (le_cases up) [
          | inl strict ↦ (
              let bound = up_left t (pos p.d) (s.hi.x -ℤ s.lo.x) (s.lo.y -ℤ s.hi.y) gap_of_y gap_of_x (d_positive p) turn_is
              (omega (arith, lin)) (omega (arith, lin)) (omega (arith, lin)) (omega (arith, lin)) in
              omega (arith, lin))
          | inr level ↦ (
              let from = y_from_lo in
              let to = y_to_hi in
              let none = level_turn s r level (omega (arith, lin)) in
              omega (arith, lin, pos_times 2 t, reach_positive s up))
        ]

    meets_up : IsBesideUp s r
    meets_up = record { up = up; from = y_from_lo; to = y_to_hi; right = right_up; left = left_up }

  meets_beside : IsBeside s r
  meets_beside =
      elim (lt_or_ge s.hi.y s.lo.y) [
        | inl down ↦ record { from = r_from; to = r_to; within = inr (meets_down down) }
        | inr up ↦ record { from = r_from; to = r_to; within = inl (meets_up up) }
      ]

-- a segment meets exactly the pixels whose centres are beside it
pub meets-is : (s : Seg) (r : Coord) → MeetsPixel s r ↔ IsBeside s r
meets-is s r = (λ h. meets_beside s r h.0 h.1.0 h.1.1, beside_meets s r)
