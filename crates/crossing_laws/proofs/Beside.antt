-- The side points of an edge: nothing that meets the edge in ends alone comes between them.
use mathlib.Core.List.{List, [], ◌∷◌}
use Rattle.std.proofs.Common.{◌≡◌, refl, sym, ◌∙◌, ap, ℕ, ◌+◌, ◌*◌, ◌^◌, ℤ, pos, neg_ℤ, ◌+ℤ◌, ◌-ℤ◌, ◌*ℤ◌, ◌≤ℤ◌, ◌<ℤ◌, inl, inr, ⊎_elim, arith}
use Rattle.cov_types.specs.declared.seg.Seg.{Seg}
use Rattle.cov_types.specs.Range.{IsSegInRange}
use Rattle.integer_laws.proofs.Ring.{lin, by_ring, by_one, by_two, Term, Var, Lit, ◌⊕◌, ◌⊖◌, ◌⊗◌, Neg, mul_one, one_mul, mul_comm, mul_neg, neg_mul, mul_assoc, add_mul, sub_mul, pos_times}
use Rattle.integer_laws.proofs.Sign.{nonneg_times_nonneg, positive_times_positive}
use Rattle.integer_laws.proofs.Cast.{pos_nonneg, positive_natural}
use Rattle.integer_laws.proofs.Order.{cancel_eq, cancel_le, cancel_lt, mul_le, lt_mul, by_le_eq}
use Rattle.integer_laws.proofs.Compare.{le_of_lt, lt_or_ge}
use Rattle.plane.specs.Point.{Point, at_coord, IsBetween}
use Rattle.plane.specs.Segment.{side, upper, lower, IsOn, IsEnd}
use Rattle.plane.specs.Ray.{sweep, Rises}
use Rattle.plane.specs.Contact.{IsCommon}
use Rattle.plane.proofs.Points.{d_positive, between_by}
use Rattle.plane.proofs.Forms.{form, form-between, form_zero-between, form_not_positive-between, form_not_negative-between}
use Rattle.plane.proofs.Sides.{side-form, side_a, side_b, side_c}
use Rattle.plane.proofs.Sweeps.{sweep-form, sweep-same, on_from_sweep, rises-in_range}
use Rattle.crossing_laws.proofs.Sides.{Misses}

-- each common point of the segments is an end of both
abbrev pub HaveOnlyEnds : Seg → Seg → Type 0
HaveOnlyEnds e f = (r : Point) → IsCommon e f r → IsEnd e r × IsEnd f r

-- how far the sweep value rises along the edge, and the sum of its ends' sweep values
abbrev pub rise : Seg → ℤ
rise e = sweep (at_coord e.hi) -ℤ sweep (at_coord e.lo)

abbrev pub sweep_sum : Seg → ℤ
sweep_sum e = sweep (at_coord e.lo) +ℤ sweep (at_coord e.hi)

-- ---- the side points: at the middle of the sweep, and as far to the side as the rise over 2^64

abbrev coordinates : Seg → List ℤ
coordinates e = e.lo.x ∷ e.lo.y ∷ e.hi.x ∷ e.hi.y ∷ []

abbrev half : Term
half = Lit (pos (2 ^ 63))

abbrev slope : Term
slope = Lit (pos (2 ^ 30))

abbrev sweep_sum_term : Term
sweep_sum_term = (slope ⊗ Var 0 ⊕ Var 1) ⊕ (slope ⊗ Var 2 ⊕ Var 3)

abbrev rise_term : Term
rise_term = (slope ⊗ Var 2 ⊕ Var 3) ⊖ (slope ⊗ Var 0 ⊕ Var 1)

pub sweep-upper : (e : Seg) → sweep (upper e) ≡ pos (2 ^ 63) *ℤ sweep_sum e
unfolding sweep
sweep-upper e =
    by_ring (coordinates e) (slope ⊗ (half ⊗ (Var 0 ⊕ Var 2) ⊖ Lit (pos 1)) ⊕ (half ⊗ (Var 1 ⊕ Var 3) ⊕ slope)) (half ⊗ sweep_sum_term) refl

pub sweep-lower : (e : Seg) → sweep (lower e) ≡ pos (2 ^ 63) *ℤ sweep_sum e
unfolding sweep
sweep-lower e =
    by_ring (coordinates e) (slope ⊗ (half ⊗ (Var 0 ⊕ Var 2) ⊕ Lit (pos 1)) ⊕ (half ⊗ (Var 1 ⊕ Var 3) ⊖ slope)) (half ⊗ sweep_sum_term) refl

abbrev side_term : Term → Term → Term
side_term x y = (Var 2 ⊖ Var 0) ⊗ (y ⊖ Var 1 ⊗ Lit (pos (2 ^ 64))) ⊖ (Var 3 ⊖ Var 1) ⊗ (x ⊖ Var 0 ⊗ Lit (pos (2 ^ 64)))

pub side-upper : (e : Seg) → side e (upper e) ≡ rise e
unfolding sweep side
side-upper e = by_ring (coordinates e) (side_term (half ⊗ (Var 0 ⊕ Var 2) ⊖ Lit (pos 1)) (half ⊗ (Var 1 ⊕ Var 3) ⊕ slope)) rise_term refl

pub side-lower : (e : Seg) → side e (lower e) ≡ neg_ℤ (rise e)
unfolding sweep side
side-lower e = by_ring (coordinates e) (side_term (half ⊗ (Var 0 ⊕ Var 2) ⊕ Lit (pos 1)) (half ⊗ (Var 1 ⊕ Var 3) ⊖ slope)) (Neg rise_term) refl

-- ---- a point between the side points

-- twice the sweep value of p is so far above the sum of the ends'
middle-form : (s : ℤ) (p : Point) → form (pos (2 ^ 31)) (pos 2) (neg_ℤ s) p ≡ (pos 2 *ℤ sweep p) -ℤ (s *ℤ pos p.d)
unfolding sweep form
middle-form s p =
    by_ring (s ∷ p.x ∷ p.y ∷ pos p.d ∷ [])
    ((Lit (pos (2 ^ 31)) ⊗ Var 1 ⊕ Lit (pos 2) ⊗ Var 2) ⊕ Neg (Var 0) ⊗ Var 3)
    (Lit (pos 2) ⊗ (slope ⊗ Var 1 ⊕ Var 2) ⊖ Var 0 ⊗ Var 3) refl

twice_half : (s : ℤ) → pos 2 *ℤ (pos (2 ^ 63) *ℤ s) ≡ s *ℤ pos (2 ^ 64)
twice_half s = by_ring (s ∷ []) (Lit (pos 2) ⊗ (half ⊗ Var 0)) (Var 0 ⊗ Lit (pos (2 ^ 64))) refl

middle_of_half : (s t : ℤ) → t ≡ pos (2 ^ 63) *ℤ s → (pos 2 *ℤ t) -ℤ (s *ℤ pos (2 ^ 64)) ≡ pos 0
middle_of_half s t h = let e = ap (λ x. pos 2 *ℤ x) h ∙ twice_half s in omega (arith, lin)

-- it is at the middle of the sweep
pub between-middle : (e : Seg) (r : Point) → IsBetween r (lower e) (upper e) → pos 2 *ℤ sweep r ≡ sweep_sum e *ℤ pos r.d
between-middle e r h =
    let s = sweep_sum e in
    let zero_form = form_zero-between (pos (2 ^ 31)) (pos 2) (neg_ℤ s) r (lower e) (upper e) h
    (middle-form s (lower e) ∙ middle_of_half s (sweep (lower e)) (sweep-lower e)) (middle-form s (upper e) ∙ middle_of_half s (sweep (upper e)) (sweep-upper e)) in
    omega (arith, lin, middle-form s r)

-- the side, 2^64 times, above g
beyond-form : (g : ℤ) (e : Seg) (p : Point)
    → form (pos (2 ^ 64) *ℤ side_a e) (pos (2 ^ 64) *ℤ side_b e) ((pos (2 ^ 64) *ℤ side_c e) -ℤ g) p ≡ (pos (2 ^ 64) *ℤ side e p) -ℤ (g *ℤ pos p.d)
unfolding form
beyond-form g e p =
    by_ring (g ∷ side_a e ∷ side_b e ∷ side_c e ∷ p.x ∷ p.y ∷ pos p.d ∷ [])
    (((Lit (pos (2 ^ 64)) ⊗ Var 1) ⊗ Var 4 ⊕ (Lit (pos (2 ^ 64)) ⊗ Var 2) ⊗ Var 5) ⊕ (Lit (pos (2 ^ 64)) ⊗ Var 3 ⊖ Var 0) ⊗ Var 6)
    (Lit (pos (2 ^ 64)) ⊗ ((Var 1 ⊗ Var 4 ⊕ Var 2 ⊗ Var 5) ⊕ Var 3 ⊗ Var 6) ⊖ Var 0 ⊗ Var 6) refl
    ∙ ap (λ x. (pos (2 ^ 64) *ℤ x) -ℤ (g *ℤ pos p.d)) (sym (side-form e p))

at_most_rise : (x : ℤ) → pos 0 ≤ℤ x → (pos (2 ^ 64) *ℤ neg_ℤ x) ≤ℤ (x *ℤ pos (2 ^ 64))
at_most_rise x h =
    let p = nonneg_times_nonneg {x = x} {y = pos (2 ^ 64)} h (pos_nonneg (2 ^ 64)) in
    omega (arith, lin, mul_neg (pos (2 ^ 64)) x, mul_comm (pos (2 ^ 64)) x)

-- and no further to the left than the side point above
pub between-left : (e : Seg) (r : Point) → Rises e → IsBetween r (lower e) (upper e) → (pos (2 ^ 64) *ℤ side e r) ≤ℤ (rise e *ℤ pos r.d)
between-left e r up h =
    let g = rise e in
    let at_lower = ap (λ x. pos (2 ^ 64) *ℤ x) (side-lower e) in
    let at_upper = ap (λ x. pos (2 ^ 64) *ℤ x) (side-upper e) in
    let below = form_not_positive-between (pos (2 ^ 64) *ℤ side_a e) (pos (2 ^ 64) *ℤ side_b e) ((pos (2 ^ 64) *ℤ side_c e) -ℤ g) r (lower e) (upper e) h
    (omega (arith, lin, beyond-form g e (lower e), at_most_rise g (omega (arith, lin))))
    (omega (arith, lin, beyond-form g e (upper e), mul_comm (pos (2 ^ 64)) g)) in
    omega (arith, lin, beyond-form g e r)

-- nor to the right than the one below
pub between-right : (e : Seg) (r : Point) → Rises e → IsBetween r (lower e) (upper e) → neg_ℤ (rise e *ℤ pos r.d) ≤ℤ (pos (2 ^ 64) *ℤ side e r)
between-right e r up h =
    let g = rise e in
    let at_lower = ap (λ x. pos (2 ^ 64) *ℤ x) (side-lower e) in
    let at_upper = ap (λ x. pos (2 ^ 64) *ℤ x) (side-upper e) in
    let above = form_not_negative-between (pos (2 ^ 64) *ℤ side_a e) (pos (2 ^ 64) *ℤ side_b e) ((pos (2 ^ 64) *ℤ side_c e) -ℤ neg_ℤ g) r (lower e) (upper e) h
    (omega (arith, lin, beyond-form (neg_ℤ g) e (lower e), mul_neg (pos (2 ^ 64)) g, neg_mul g (pos (2 ^ 64)), mul_comm (pos (2 ^ 64)) g))
    (omega (arith, lin, beyond-form (neg_ℤ g) e (upper e), at_most_rise g (omega (arith, lin)), mul_neg (pos (2 ^ 64)) g, neg_mul g (pos (2 ^ 64)))) in
    omega (arith, lin, beyond-form (neg_ℤ g) e r, neg_mul g (pos r.d))

-- ---- over plain variables: r, of depth d, the mean with weights m, n of two points whose sides are a, b and whose sweep values are t, u

-- its sweep value is at the middle
mean_sweep : (d r m n w t u s : ℤ) → pos 0 <ℤ d → r *ℤ w ≡ d *ℤ ((m *ℤ t) +ℤ (n *ℤ u)) → pos 2 *ℤ r ≡ s *ℤ d → w *ℤ s ≡ pos 2 *ℤ ((m *ℤ t) +ℤ (n *ℤ u))
mean_sweep d r m n w t u s positive h k =
    cancel_eq d (w *ℤ s) (pos 2 *ℤ ((m *ℤ t) +ℤ (n *ℤ u))) positive
    (by_two (d ∷ r ∷ m ∷ n ∷ w ∷ t ∷ u ∷ s ∷ [])
    (Var 0 ⊗ (Var 4 ⊗ Var 7)) (Var 0 ⊗ (Lit (pos 2) ⊗ (Var 2 ⊗ Var 5 ⊕ Var 3 ⊗ Var 6)))
    (Lit (pos 2)) (Var 1 ⊗ Var 4) (Var 0 ⊗ (Var 2 ⊗ Var 5 ⊕ Var 3 ⊗ Var 6))
    (Neg (Var 4)) (Lit (pos 2) ⊗ Var 1) (Var 7 ⊗ Var 0) refl h k)

-- its side is at most g/k
mean_side : (k g d r w x : ℤ) → pos 0 <ℤ d → pos 0 ≤ℤ w → r *ℤ w ≡ d *ℤ x → (k *ℤ r) ≤ℤ (g *ℤ d) → (k *ℤ x) ≤ℤ (g *ℤ w)
mean_side k g d r w x positive hw h le =
    cancel_le d (k *ℤ x) (g *ℤ w) positive
    (by_le_eq (k ∷ g ∷ d ∷ r ∷ w ∷ x ∷ []) (Var 2 ⊗ (Var 0 ⊗ Var 5)) (Var 2 ⊗ (Var 1 ⊗ Var 4))
    (Var 4) (Var 0 ⊗ Var 3) (Var 1 ⊗ Var 2) (Var 0) (Var 2 ⊗ Var 5) (Var 3 ⊗ Var 4) refl hw le (sym h))

-- the line's point with the weights b and -a, against the middle: as far as the side, times the rise of the other
gap_is : (a b t u m n w s : ℤ) → w *ℤ s ≡ pos 2 *ℤ ((m *ℤ t) +ℤ (n *ℤ u)) → w ≡ m +ℤ n
    → w *ℤ ((pos 2 *ℤ ((b *ℤ t) -ℤ (a *ℤ u))) -ℤ (s *ℤ (b -ℤ a))) ≡ neg_ℤ ((pos 2 *ℤ (u -ℤ t)) *ℤ ((m *ℤ a) +ℤ (n *ℤ b)))
gap_is a b t u m n w s h k =
    by_two (a ∷ b ∷ t ∷ u ∷ m ∷ n ∷ w ∷ s ∷ [])
    (Var 6 ⊗ (Lit (pos 2) ⊗ (Var 1 ⊗ Var 2 ⊖ Var 0 ⊗ Var 3) ⊖ Var 7 ⊗ (Var 1 ⊖ Var 0))) (Neg (Lit (pos 2) ⊗ (Var 3 ⊖ Var 2) ⊗ (Var 4 ⊗ Var 0 ⊕ Var 5 ⊗ Var 1)))
    (Neg (Var 1 ⊖ Var 0)) (Var 6 ⊗ Var 7) (Lit (pos 2) ⊗ (Var 4 ⊗ Var 2 ⊕ Var 5 ⊗ Var 3))
    (Lit (pos 2) ⊗ (Var 1 ⊗ Var 2 ⊖ Var 0 ⊗ Var 3)) (Var 6) (Var 4 ⊕ Var 5) refl h k

-- w times g is x times c, which is small: g is below d times h
small_gap : (k w g x c d h : ℤ) → pos 0 <ℤ k → pos 0 <ℤ w → pos 0 <ℤ d → pos 1 ≤ℤ h → pos 0 ≤ℤ x → x <ℤ k
    → w *ℤ g ≡ x *ℤ c → (k *ℤ c) ≤ℤ (d *ℤ w) → g <ℤ (d *ℤ h)
small_gap k w g x c d h hk hw hd hh hx small e le =
    let scaled : (k *ℤ g) ≤ℤ (x *ℤ d) =
    cancel_le w (k *ℤ g) (x *ℤ d) hw
    (by_le_eq (k ∷ w ∷ g ∷ x ∷ c ∷ d ∷ []) (Var 1 ⊗ (Var 0 ⊗ Var 2)) (Var 1 ⊗ (Var 3 ⊗ Var 5))
    (Var 3) (Var 0 ⊗ Var 4) (Var 5 ⊗ Var 1) (Var 0) (Var 1 ⊗ Var 2) (Var 3 ⊗ Var 4) refl hx le e) in
    let one = lt_mul d hd small in
    let more = mul_le (k *ℤ d) (le_of_lt (positive_times_positive hk hd)) hh in
    cancel_lt k g (d *ℤ h) (le_of_lt hk) (omega (arith, lin, mul_one (k *ℤ d), mul_assoc k d h))

-- ---- a segment with a point between the side points

-- the facts of such a point: a and b are the sides of the segment's ends, t and u their sweep values, m and n the weights
pub record IsNear (a b t u m n s g : ℤ) : Type 0 where
  pub middle : (m +ℤ n) *ℤ s ≡ pos 2 *ℤ ((m *ℤ t) +ℤ (n *ℤ u))
  pub left : (pos (2 ^ 64) *ℤ ((m *ℤ a) +ℤ (n *ℤ b))) ≤ℤ (g *ℤ (m +ℤ n))
  pub right : (pos (2 ^ 64) *ℤ neg_ℤ ((m *ℤ a) +ℤ (n *ℤ b))) ≤ℤ (g *ℤ (m +ℤ n))

near_negated : (a b t u m n s g : ℤ) → IsNear a b t u m n s g → IsNear (neg_ℤ a) (neg_ℤ b) t u m n s g
near_negated a b t u m n s g h =
    let turned : (m *ℤ neg_ℤ a) +ℤ (n *ℤ neg_ℤ b) ≡ neg_ℤ ((m *ℤ a) +ℤ (n *ℤ b)) = omega (arith, lin, mul_neg m a, mul_neg n b) in
    let back : neg_ℤ ((m *ℤ neg_ℤ a) +ℤ (n *ℤ neg_ℤ b)) ≡ (m *ℤ a) +ℤ (n *ℤ b) = omega (arith, lin) in
    record { middle = h.middle; left = rw turned h.right; right = rw back h.left }

-- not both ends are strictly on the left
not_both_left : (a b t u m n s g : ℤ) → IsNear a b t u m n s g → pos 0 ≤ℤ m → pos 0 ≤ℤ n → pos 0 <ℤ (m +ℤ n) → g <ℤ pos (2 ^ 64) → pos 0 <ℤ a → pos 0 <ℤ b → ⊥
not_both_left a b t u m n s g h hm hn w small ha hb =
    let first = mul_le {x = pos 1} {y = a} m hm (omega (arith, lin)) in
    let second = mul_le {x = pos 1} {y = b} n hn (omega (arith, lin)) in
    let all : (m +ℤ n) ≤ℤ ((m *ℤ a) +ℤ (n *ℤ b)) = omega (arith, lin, mul_one m, mul_one n) in
    let third = mul_le (pos (2 ^ 64)) (pos_nonneg (2 ^ 64)) all in
    let fourth = lt_mul (m +ℤ n) w small in
    omega (arith, lin, h.left)

-- ---- the segment meets the line of the edge inside the edge

-- a point of both that is no end of the edge
inside_meets : (e f : Seg) (c : Point) → Rises e → HaveOnlyEnds e f → IsOn f c → side e c ≡ pos 0
    → (sweep (at_coord e.lo) *ℤ pos c.d) <ℤ sweep c → sweep c <ℤ (sweep (at_coord e.hi) *ℤ pos c.d) → ⊥
inside_meets e f c up ends on on_line low high =
    let end = (ends c (on_from_sweep e c up on_line (le_of_lt low) (le_of_lt high), on)).0 in
    ⊎_elim
    (λ at. let s = sweep-same c (at_coord e.lo) at in omega (arith, lin, mul_one (sweep c)))
    (λ at. let s = sweep-same c (at_coord e.hi) at in omega (arith, lin, mul_one (sweep c)))
    end

-- the point with the weights b and -a on the segment
line_side : (lx ly hx hy a b px py qx qy d : ℤ) → d ≡ b -ℤ a
    → ((hx -ℤ lx) *ℤ (((b *ℤ py) -ℤ (a *ℤ qy)) -ℤ (ly *ℤ d))) -ℤ ((hy -ℤ ly) *ℤ (((b *ℤ px) -ℤ (a *ℤ qx)) -ℤ (lx *ℤ d)))
    ≡ (b *ℤ (((hx -ℤ lx) *ℤ (py -ℤ (ly *ℤ pos 1))) -ℤ ((hy -ℤ ly) *ℤ (px -ℤ (lx *ℤ pos 1)))))
    -ℤ (a *ℤ (((hx -ℤ lx) *ℤ (qy -ℤ (ly *ℤ pos 1))) -ℤ ((hy -ℤ ly) *ℤ (qx -ℤ (lx *ℤ pos 1)))))
line_side lx ly hx hy a b px py qx qy d h =
    let at = λ (x y z : Term). (Var 2 ⊖ Var 0) ⊗ (y ⊖ Var 1 ⊗ z) ⊖ (Var 3 ⊖ Var 1) ⊗ (x ⊖ Var 0 ⊗ z) in
    by_one (lx ∷ ly ∷ hx ∷ hy ∷ a ∷ b ∷ px ∷ py ∷ qx ∷ qy ∷ d ∷ [])
    (at (Var 5 ⊗ Var 6 ⊖ Var 4 ⊗ Var 8) (Var 5 ⊗ Var 7 ⊖ Var 4 ⊗ Var 9) (Var 10))
    (Var 5 ⊗ at (Var 6) (Var 7) (Lit (pos 1)) ⊖ Var 4 ⊗ at (Var 8) (Var 9) (Lit (pos 1)))
    ((Var 3 ⊖ Var 1) ⊗ Var 0 ⊖ (Var 2 ⊖ Var 0) ⊗ Var 1) (Var 10) (Var 5 ⊖ Var 4) refl h

line_sweep : (k a b px py qx qy : ℤ) → (k *ℤ ((b *ℤ px) -ℤ (a *ℤ qx))) +ℤ ((b *ℤ py) -ℤ (a *ℤ qy)) ≡ (b *ℤ ((k *ℤ px) +ℤ py)) -ℤ (a *ℤ ((k *ℤ qx) +ℤ qy))
line_sweep k a b px py qx qy =
    by_ring (k ∷ a ∷ b ∷ px ∷ py ∷ qx ∷ qy ∷ [])
    (Var 0 ⊗ (Var 2 ⊗ Var 3 ⊖ Var 1 ⊗ Var 5) ⊕ (Var 2 ⊗ Var 4 ⊖ Var 1 ⊗ Var 6))
    (Var 2 ⊗ (Var 0 ⊗ Var 3 ⊕ Var 4) ⊖ Var 1 ⊗ (Var 0 ⊗ Var 5 ⊕ Var 6)) refl

-- that point of the segment, its side and its sweep value
pub record IsLinePoint (e f : Seg) (a b : ℤ) (c : Point) : Type 0 where
  pub on : IsOn f c
  pub depth : pos c.d ≡ b -ℤ a
  pub side_is : side e c ≡ (b *ℤ side e (at_coord f.lo)) -ℤ (a *ℤ side e (at_coord f.hi))
  pub sweep_is : sweep c ≡ (b *ℤ sweep (at_coord f.lo)) -ℤ (a *ℤ sweep (at_coord f.hi))

line_point : (e f : Seg) (a b : ℤ) → a ≤ℤ pos 0 → pos 0 ≤ℤ b → pos 0 <ℤ (b -ℤ a) → (c : Point) × IsLinePoint e f a b c
unfolding side sweep
line_point e f a b ha hb w =
    let (d, positive, depth) = positive_natural (b -ℤ a) w in
    let x = (b *ℤ f.lo.x) -ℤ (a *ℤ f.hi.x) in
    let y = (b *ℤ f.lo.y) -ℤ (a *ℤ f.hi.y) in
    let c : Point = record { x = x; y = y; d = d; positive = positive } in (
      c,
      record {
        on =
            between_by c (at_coord f.lo) (at_coord f.hi) (pos 1) b (neg_ℤ a) hb (omega (arith, lin)) (omega (arith, lin))
            (omega (arith, lin, one_mul x, neg_mul a f.hi.x)) (omega (arith, lin, one_mul y, neg_mul a f.hi.y))
            (omega (arith, lin, one_mul (pos d), mul_one b, mul_one (neg_ℤ a)));
        depth = sym depth;
        side_is = line_side e.lo.x e.lo.y e.hi.x e.hi.y a b f.lo.x f.lo.y f.hi.x f.hi.y (pos d) (sym depth);
        sweep_is = line_sweep (pos (2 ^ 30)) a b f.lo.x f.lo.y f.hi.x f.hi.y;
      },
    )

-- over plain variables: twice the sweep value x at the depth d is less than g = h - l from the sum l + h
below_end : (l h d x : ℤ) → ((pos 2 *ℤ x) -ℤ ((l +ℤ h) *ℤ d)) <ℤ ((h -ℤ l) *ℤ d) → x <ℤ (h *ℤ d)
below_end l h d x lt = omega (arith, lin, add_mul l h d, sub_mul h l d, pos_times 2 x)

above_end : (l h d x : ℤ) → neg_ℤ ((pos 2 *ℤ x) -ℤ ((l +ℤ h) *ℤ d)) <ℤ ((h -ℤ l) *ℤ d) → (l *ℤ d) <ℤ x
above_end l h d x lt = omega (arith, lin, add_mul l h d, sub_mul h l d, pos_times 2 x)

-- the ends are not on opposite sides of the line
not_opposite : (e f : Seg) (a b m n : ℤ) → Rises e → Rises f → HaveOnlyEnds e f → (pos 2 *ℤ rise f) <ℤ pos (2 ^ 64)
    → a ≤ℤ pos 0 → pos 0 ≤ℤ b → pos 0 <ℤ (b -ℤ a) → (b *ℤ side e (at_coord f.lo)) -ℤ (a *ℤ side e (at_coord f.hi)) ≡ pos 0
    → IsNear a b (sweep (at_coord f.lo)) (sweep (at_coord f.hi)) m n (sweep_sum e) (rise e) → pos 0 <ℤ (m +ℤ n) → ⊥
not_opposite e f a b m n up_e up_f ends small ha hb w none near weight =
    let (c, at) = line_point e f a b ha hb w in
    let t = sweep (at_coord f.lo) in
    let u = sweep (at_coord f.hi) in
    let x = (m *ℤ a) +ℤ (n *ℤ b) in
    let gap = (pos 2 *ℤ ((b *ℤ t) -ℤ (a *ℤ u))) -ℤ (sweep_sum e *ℤ (b -ℤ a)) in
    let is = gap_is a b t u m n (m +ℤ n) (sweep_sum e) near.middle refl in
    let rising : pos 0 ≤ℤ (pos 2 *ℤ rise f) = omega (arith, lin, pos_times 2 (rise f)) in
    let one : pos 1 ≤ℤ (b -ℤ a) = omega (arith, lin) in
    let high : gap <ℤ (rise e *ℤ (b -ℤ a)) =
    small_gap (pos (2 ^ 64)) (m +ℤ n) gap (pos 2 *ℤ rise f) (neg_ℤ x) (rise e) (b -ℤ a)
    (omega (arith, lin)) weight (omega (arith, lin)) one rising small (is ∙ sym (mul_neg (pos 2 *ℤ rise f) x)) near.right in
    let low : neg_ℤ gap <ℤ (rise e *ℤ (b -ℤ a)) =
    small_gap (pos (2 ^ 64)) (m +ℤ n) (neg_ℤ gap) (pos 2 *ℤ rise f) x (rise e) (b -ℤ a)
    (omega (arith, lin)) weight (omega (arith, lin)) one rising small (omega (arith, lin, is, mul_neg (m +ℤ n) gap)) near.left in
    let value : (pos 2 *ℤ sweep c) -ℤ (sweep_sum e *ℤ pos c.d) ≡ gap =
    (let p = ap (λ z. pos 2 *ℤ z) at.sweep_is in let q = ap (λ z. sweep_sum e *ℤ z) at.depth in omega (arith, lin)) in
    let depth = ap (λ z. rise e *ℤ z) at.depth in
    inside_meets e f c up_e ends at.on (at.side_is ∙ none)
    (above_end (sweep (at_coord e.lo)) (sweep (at_coord e.hi)) (pos c.d) (sweep c) (omega (arith, lin)))
    (below_end (sweep (at_coord e.lo)) (sweep (at_coord e.hi)) (pos c.d) (sweep c) (omega (arith, lin)))

-- nor both on it
not_both_on : (e f : Seg) (r : Point) → Rises e → HaveOnlyEnds e f → IsOn f r → side e (at_coord f.lo) ≡ pos 0 → side e (at_coord f.hi) ≡ pos 0
    → pos 2 *ℤ sweep r ≡ sweep_sum e *ℤ pos r.d → ⊥
not_both_on e f r up ends on on_lo on_hi middle =
    let on_line : side e r ≡ pos 0 =
    side-form e r ∙ form_zero-between (side_a e) (side_b e) (side_c e) r (at_coord f.lo) (at_coord f.hi) on
    (sym (side-form e (at_coord f.lo)) ∙ on_lo) (sym (side-form e (at_coord f.hi)) ∙ on_hi) in
    let more = positive_times_positive {x = rise e} {y = pos r.d} (omega (arith, lin)) (d_positive r) in
    inside_meets e f r up ends on on_line
    (above_end (sweep (at_coord e.lo)) (sweep (at_coord e.hi)) (pos r.d) (sweep r) (omega (arith, lin)))
    (below_end (sweep (at_coord e.lo)) (sweep (at_coord e.hi)) (pos r.d) (sweep r) (omega (arith, lin)))

-- ---- in range

-- the sweep value of a segment in range rises by less than 2^63
rise_in_range : (f : Seg) → IsSegInRange f → (pos 2 *ℤ rise f) <ℤ pos (2 ^ 64)
unfolding sweep
rise_in_range f h =
    omega (arith, lin, pos_times 2 (rise f), pos_times (2 ^ 30) f.lo.x, pos_times (2 ^ 30) f.hi.x, h.lo.left, h.lo.bottom, h.hi.right, h.hi.top)

rise_below : (f : Seg) → IsSegInRange f → rise f <ℤ pos (2 ^ 64)
rise_below f h = omega (arith, lin, rise_in_range f h, pos_times 2 (rise f))

-- the sum of the weights of a point on a segment
weights_add : (m n : ℕ) → pos (m * 1 + n * 1) ≡ pos m +ℤ pos n
weights_add m n = omega (arith, lin)

sweep-mean : (f : Seg) (r : Point) (on : IsOn f r)
    → sweep r *ℤ (pos on.first +ℤ pos on.second) ≡ pos r.d *ℤ ((pos on.first *ℤ sweep (at_coord f.lo)) +ℤ (pos on.second *ℤ sweep (at_coord f.hi)))
sweep-mean f r on =
    rw (sweep-form r, sweep-form (at_coord f.lo), sweep-form (at_coord f.hi), ← weights_add on.first on.second)
    (form-between (pos (2 ^ 30)) (pos 1) (pos 0) r (at_coord f.lo) (at_coord f.hi) on)

side-mean : (e f : Seg) (r : Point) (on : IsOn f r)
    → side e r *ℤ (pos on.first +ℤ pos on.second) ≡ pos r.d *ℤ ((pos on.first *ℤ side e (at_coord f.lo)) +ℤ (pos on.second *ℤ side e (at_coord f.hi)))
side-mean e f r on =
    rw (side-form e r, side-form e (at_coord f.lo), side-form e (at_coord f.hi), ← weights_add on.first on.second)
    (form-between (side_a e) (side_b e) (side_c e) r (at_coord f.lo) (at_coord f.hi) on)

weight_positive : (f : Seg) (r : Point) (on : IsOn f r) → pos 0 <ℤ (pos on.first +ℤ pos on.second)
weight_positive f r on = let w = on.weighted in omega (arith, lin)

-- over plain variables: the mean of the negated sides
mean_negated : (r w d x : ℤ) → r *ℤ w ≡ d *ℤ x → neg_ℤ r *ℤ w ≡ d *ℤ neg_ℤ x
mean_negated r w d x h = omega (arith, lin, neg_mul r w, mul_neg d x)

positive_negated : (a : ℤ) → a <ℤ pos 0 → pos 0 <ℤ neg_ℤ a
positive_negated a h = omega (arith, lin)

nonneg_negated : (a : ℤ) → a ≤ℤ pos 0 → pos 0 ≤ℤ neg_ℤ a
nonneg_negated a h = omega (arith, lin)

nonpos_negated : (a : ℤ) → pos 0 ≤ℤ a → neg_ℤ a ≤ℤ pos 0
nonpos_negated a h = omega (arith, lin)

gap_negated : (a b : ℤ) → pos 0 <ℤ (a -ℤ b) → pos 0 <ℤ (neg_ℤ b -ℤ neg_ℤ a)
gap_negated a b h = omega (arith, lin)

-- a point of the segment between the side points is near in this way
near_between : (e f : Seg) (r : Point) → Rises e → IsBetween r (lower e) (upper e) → (on : IsOn f r)
    → IsNear (side e (at_coord f.lo)) (side e (at_coord f.hi)) (sweep (at_coord f.lo)) (sweep (at_coord f.hi)) (pos on.first) (pos on.second) (sweep_sum e) (rise e)
near_between e f r up between on =
    let w = pos on.first +ℤ pos on.second in
    let x = (pos on.first *ℤ side e (at_coord f.lo)) +ℤ (pos on.second *ℤ side e (at_coord f.hi)) in
    let weight = le_of_lt (weight_positive f r on) in
    let mean = side-mean e f r on in
    record {
      middle =
          mean_sweep (pos r.d) (sweep r) (pos on.first) (pos on.second) w (sweep (at_coord f.lo)) (sweep (at_coord f.hi)) (sweep_sum e)
          (d_positive r) (sweep-mean f r on) (between-middle e r between);
      left = mean_side (pos (2 ^ 64)) (rise e) (pos r.d) (side e r) w x (d_positive r) weight mean (between-left e r up between);
      right =
          mean_side (pos (2 ^ 64)) (rise e) (pos r.d) (neg_ℤ (side e r)) w (neg_ℤ x) (d_positive r) weight (mean_negated (side e r) w (pos r.d) x mean)
          (omega (arith, lin, mul_neg (pos (2 ^ 64)) (side e r), between-right e r up between));
    }

opposite_zero : (a b : ℤ) → (b *ℤ a) -ℤ (a *ℤ b) ≡ pos 0
opposite_zero a b = omega (arith, lin, mul_comm a b)

turned_zero : (a b : ℤ) → (neg_ℤ b *ℤ a) -ℤ (neg_ℤ a *ℤ b) ≡ pos 0
turned_zero a b = omega (arith, lin, neg_mul b a, neg_mul a b, mul_comm a b)

-- the cases of two sides
no_case : (a b : ℤ) → (pos 0 <ℤ a → pos 0 <ℤ b → ⊥) → (a <ℤ pos 0 → b <ℤ pos 0 → ⊥) → (a ≤ℤ pos 0 → pos 0 ≤ℤ b → pos 0 <ℤ (b -ℤ a) → ⊥)
    → (pos 0 ≤ℤ a → b ≤ℤ pos 0 → pos 0 <ℤ (a -ℤ b) → ⊥) → (a ≡ pos 0 → b ≡ pos 0 → ⊥) → ⊥
no_case a b both_left both_right up down on =
    elim (lt_or_ge (pos 0) a) [
      | inl left_a ↦ elim (lt_or_ge (pos 0) b) [
        | inl left_b ↦ both_left left_a left_b
        | inr down_b ↦ down (omega (arith, lin)) down_b (omega (arith, lin))
      ]
      | inr down_a ↦ elim (lt_or_ge a (pos 0)) [
        | inl right_a ↦ elim (lt_or_ge b (pos 0)) [
          | inl right_b ↦ both_right right_a right_b
          | inr up_b ↦ up down_a up_b (omega (arith, lin))
        ]
        | inr up_a ↦ elim (lt_or_ge (pos 0) b) [
          | inl left_b ↦ up down_a (omega (arith, lin)) (omega (arith, lin))
          | inr down_b ↦ elim (lt_or_ge b (pos 0)) [
            | inl right_b ↦ down up_a down_b (omega (arith, lin))
            | inr up_b ↦ on (omega (arith, lin)) (omega (arith, lin))
          ]
        ]
      ]
    ]

-- no point between the side points of the edge is on the segment
none_between : (e f : Seg) → IsSegInRange e → IsSegInRange f → HaveOnlyEnds e f → (r : Point) → IsBetween r (lower e) (upper e) → IsOn f r → ⊥
none_between e f he hf ends r between on =
    let a = side e (at_coord f.lo) in
    let b = side e (at_coord f.hi) in
    let t = sweep (at_coord f.lo) in
    let u = sweep (at_coord f.hi) in
    let m = pos on.first in
    let n = pos on.second in
    let up_e = rises-in_range e he in
    let up_f = rises-in_range f hf in
    let near = near_between e f r up_e between on in
    let turned = near_negated a b t u m n (sweep_sum e) (rise e) near in
    let w = weight_positive f r on in
    let first = pos_nonneg on.first in
    let second = pos_nonneg on.second in
    let slight = rise_below e he in
    let small = rise_in_range f hf in
    no_case a b
    (not_both_left a b t u m n (sweep_sum e) (rise e) near first second w slight)
    (λ ha hb. not_both_left (neg_ℤ a) (neg_ℤ b) t u m n (sweep_sum e) (rise e) turned first second w slight (positive_negated a ha) (positive_negated b hb))
    (λ ha hb gap. not_opposite e f a b m n up_e up_f ends small ha hb gap (opposite_zero a b) near w)
    (λ ha hb gap. not_opposite e f (neg_ℤ a) (neg_ℤ b) m n up_e up_f ends small (nonpos_negated a ha) (nonneg_negated b hb) (gap_negated a b gap) (turned_zero a b) turned w)
    (λ ha hb. not_both_on e f r up_e ends on ha hb (between-middle e r between))

pub side_points_clear : (e f : Seg) → IsSegInRange e → IsSegInRange f → HaveOnlyEnds e f → Misses f (lower e) (upper e)
side_points_clear e f he hf ends = record { none = none_between e f he hf ends }
