-- Sweep values: their order on grid points, on a segment and on its line.
use mathlib.Core.List.{[], ◌∷◌}
use Rattle.std.proofs.Common.{◌≡◌, refl, sym, ◌∙◌, ap, ◌^◌, ℤ, pos, negsuc, neg_ℤ, ◌+ℤ◌, ◌-ℤ◌, ◌*ℤ◌, ◌<ℤ◌, ◌≤ℤ◌, IsTrue, ◌↔◌, inl, inr, arith}
use borrow.Author.Differences.{product_is}
use Rattle.integer_laws.proofs.Ring.{lin, by_ring, by_one, by_three, Term, Var, Lit, ◌⊕◌, ◌⊖◌, ◌⊗◌, Neg, mul_one}
use Rattle.integer_laws.proofs.Compare.{int_lt_is, le_of_lt}
use Rattle.integer_laws.proofs.Order.{cancel_eq}
use Rattle.integer_laws.proofs.Sign.{positive_times_positive}
use Rattle.cov_types.specs.declared.coord.Coord.{Coord}
use Rattle.cov_types.specs.declared.seg.Seg.{Seg}
use Rattle.cov_types.specs.Coord.{is_before}
use Rattle.cov_types.specs.Range.{IsInRange, IsSegInRange}
use Rattle.cov_types.proofs.Order.{cases_before, cases_coords}
use Rattle.plane.specs.Point.{Point, SamePoint, at_coord}
use Rattle.plane.specs.Segment.{IsOn, side}
use Rattle.plane.specs.Ray.{sweep, sweep_below, Rises}
use Rattle.plane.proofs.Points.{d_positive, between_by}
use Rattle.plane.proofs.Forms.{form, form_not_negative-between, form_not_positive-between, form-same}
use Rattle.plane.proofs.Sides.{side-lo, side-hi, side_zero-on}

-- ---- grid points

-- in range the sweep value orders grid points as they are ordered
pub sweep-before : (a b : Coord) → IsInRange a → IsInRange b → IsTrue (is_before a b) → sweep (at_coord a) <ℤ sweep (at_coord b)
unfolding sweep
sweep-before a b ra rb h =
    elim (cases_before a b h) [
      | inl x ↦ omega (arith, lin, product_is (pos (2 ^ 30)) a.x, product_is (pos (2 ^ 30)) b.x)
      | inr same ↦ omega (arith, lin, product_is (pos (2 ^ 30)) a.x, product_is (pos (2 ^ 30)) b.x)
    ]

pub before-sweep : (a b : Coord) → IsInRange a → IsInRange b → sweep (at_coord a) <ℤ sweep (at_coord b) → IsTrue (is_before a b)
before-sweep a b ra rb h =
    elim (cases_coords a b) [
      | inl before ↦ before
      | inr rest ↦ elim rest [
        | inl same ↦ absurd (let e = ap (λ c. sweep (at_coord c)) same in omega (arith, lin))
        | inr after ↦ absurd (let l = sweep-before b a rb ra after in omega (arith, lin))
      ]
    ]

-- and it is one to one there
pub sweep-one_to_one : (a b : Coord) → IsInRange a → IsInRange b → sweep (at_coord a) ≡ sweep (at_coord b) → a ≡ b
sweep-one_to_one a b ra rb e =
    elim (cases_coords a b) [
      | inl before ↦ absurd (let l = sweep-before a b ra rb before in omega (arith, lin))
      | inr rest ↦ elim rest [
        | inl same ↦ same
        | inr after ↦ absurd (let l = sweep-before b a rb ra after in omega (arith, lin))
      ]
    ]

-- so a segment in range rises
pub rises-in_range : (s : Seg) → IsSegInRange s → Rises s
rises-in_range s r = sweep-before s.lo s.hi r.lo r.hi s.ordered

-- ---- rational points

-- the sweep value is a linear form
pub sweep-form : (p : Point) → sweep p ≡ form (pos (2 ^ 30)) (pos 1) (pos 0) p
unfolding sweep form
sweep-form p =
    by_ring (pos (2 ^ 30) ∷ p.x ∷ p.y ∷ pos p.d ∷ []) (Var 0 ⊗ Var 1 ⊕ Var 2) ((Var 0 ⊗ Var 1 ⊕ Lit (pos 1) ⊗ Var 2) ⊕ Lit (pos 0) ⊗ Var 3) refl

-- how far the sweep value of p is above k, times the denominator
pub sweep-above : (k : ℤ) (p : Point) → form (pos (2 ^ 30)) (pos 1) (neg_ℤ k) p ≡ sweep p -ℤ (k *ℤ pos p.d)
unfolding sweep form
sweep-above k p =
    by_ring (pos (2 ^ 30) ∷ p.x ∷ p.y ∷ pos p.d ∷ k ∷ []) ((Var 0 ⊗ Var 1 ⊕ Lit (pos 1) ⊗ Var 2) ⊕ Neg (Var 4) ⊗ Var 3) ((Var 0 ⊗ Var 1 ⊕ Var 2) ⊖ Var 4 ⊗ Var 3) refl

-- one point has one sweep value, times the other denominator
pub sweep-same : (p q : Point) → SamePoint p q → sweep p *ℤ pos q.d ≡ sweep q *ℤ pos p.d
sweep-same p q h =
    ap (λ x. x *ℤ pos q.d) (sweep-form p) ∙ form-same (pos (2 ^ 30)) (pos 1) (pos 0) p q h ∙ ap (λ x. x *ℤ pos p.d) (sym (sweep-form q))

pub sweep_below-is : (p q : Point) → IsTrue (sweep_below p q) ↔ ((sweep p *ℤ pos q.d) <ℤ (sweep q *ℤ pos p.d))
sweep_below-is p q = int_lt_is (sweep p *ℤ pos q.d) (sweep q *ℤ pos p.d)

-- on a segment that does not fall, the sweep value is between those of the ends
pub sweep-on_from : (s : Seg) (r : Point) → sweep (at_coord s.lo) ≤ℤ sweep (at_coord s.hi) → IsOn s r → (sweep (at_coord s.lo) *ℤ pos r.d) ≤ℤ sweep r
sweep-on_from s r rises h =
    let lo = at_coord s.lo in
    let hi = at_coord s.hi in
    let k = sweep lo in
    let above = form_not_negative-between (pos (2 ^ 30)) (pos 1) (neg_ℤ k) r lo hi h
    (omega (arith, lin, sweep-above k lo, mul_one k)) (omega (arith, lin, sweep-above k hi, mul_one k)) in
    omega (arith, lin, sweep-above k r)

pub sweep-on_to : (s : Seg) (r : Point) → sweep (at_coord s.lo) ≤ℤ sweep (at_coord s.hi) → IsOn s r → sweep r ≤ℤ (sweep (at_coord s.hi) *ℤ pos r.d)
sweep-on_to s r rises h =
    let lo = at_coord s.lo in
    let hi = at_coord s.hi in
    let k = sweep hi in
    let below = form_not_positive-between (pos (2 ^ 30)) (pos 1) (neg_ℤ k) r lo hi h
    (omega (arith, lin, sweep-above k lo, mul_one k)) (omega (arith, lin, sweep-above k hi, mul_one k)) in
    omega (arith, lin, sweep-above k r)

-- ---- on the line of a segment that rises, over plain variables:
-- k is 2^30; lx, ly and hx, hy the ends; px, py, pd and qx, qy, qd two points

abbrev side_of : ℤ → ℤ → ℤ → ℤ → ℤ → ℤ → ℤ → ℤ
side_of lx ly hx hy px py pd = ((hx -ℤ lx) *ℤ (py -ℤ (ly *ℤ pd))) -ℤ ((hy -ℤ ly) *ℤ (px -ℤ (lx *ℤ pd)))

abbrev at : ℤ → ℤ → ℤ → ℤ
at k x y = (k *ℤ x) +ℤ y

abbrev side_term : Term → Term → Term → Term
side_term x y d = (Var 3 ⊖ Var 1) ⊗ (y ⊖ Var 2 ⊗ d) ⊖ (Var 4 ⊖ Var 2) ⊗ (x ⊖ Var 1 ⊗ d)

abbrev at_term : Term → Term → Term
at_term x y = Var 0 ⊗ x ⊕ y

abbrev height_term : Term
height_term = at_term (Var 3) (Var 4) ⊖ at_term (Var 1) (Var 2)

-- the point as the mean of the ends, with the gaps of the sweep values as weights
mean_x : (k lx ly hx hy px py pd : ℤ) → side_of lx ly hx hy px py pd ≡ pos 0
    → (at k hx hy -ℤ at k lx ly) *ℤ px ≡ (((at k hx hy *ℤ pd) -ℤ at k px py) *ℤ lx) +ℤ ((at k px py -ℤ (at k lx ly *ℤ pd)) *ℤ hx)
mean_x k lx ly hx hy px py pd h =
    by_one (k ∷ lx ∷ ly ∷ hx ∷ hy ∷ px ∷ py ∷ pd ∷ []) (height_term ⊗ Var 5)
    ((at_term (Var 3) (Var 4) ⊗ Var 7 ⊖ at_term (Var 5) (Var 6)) ⊗ Var 1 ⊕ (at_term (Var 5) (Var 6) ⊖ at_term (Var 1) (Var 2) ⊗ Var 7) ⊗ Var 3)
    (Lit (negsuc 0)) (side_term (Var 5) (Var 6) (Var 7)) (Lit (pos 0)) refl h

mean_y : (k lx ly hx hy px py pd : ℤ) → side_of lx ly hx hy px py pd ≡ pos 0
    → (at k hx hy -ℤ at k lx ly) *ℤ py ≡ (((at k hx hy *ℤ pd) -ℤ at k px py) *ℤ ly) +ℤ ((at k px py -ℤ (at k lx ly *ℤ pd)) *ℤ hy)
mean_y k lx ly hx hy px py pd h =
    by_one (k ∷ lx ∷ ly ∷ hx ∷ hy ∷ px ∷ py ∷ pd ∷ []) (height_term ⊗ Var 6)
    ((at_term (Var 3) (Var 4) ⊗ Var 7 ⊖ at_term (Var 5) (Var 6)) ⊗ Var 2 ⊕ (at_term (Var 5) (Var 6) ⊖ at_term (Var 1) (Var 2) ⊗ Var 7) ⊗ Var 4)
    (Var 0) (side_term (Var 5) (Var 6) (Var 7)) (Lit (pos 0)) refl h

mean_d : (l h p d : ℤ) → (h -ℤ l) *ℤ d ≡ (((h *ℤ d) -ℤ p) *ℤ pos 1) +ℤ ((p -ℤ (l *ℤ d)) *ℤ pos 1)
mean_d l h p d =
    by_ring (l ∷ h ∷ p ∷ d ∷ []) ((Var 1 ⊖ Var 0) ⊗ Var 3) ((Var 1 ⊗ Var 3 ⊖ Var 2) ⊗ Lit (pos 1) ⊕ (Var 2 ⊖ Var 0 ⊗ Var 3) ⊗ Lit (pos 1)) refl

weights_sum : (l h p d : ℤ) → ((h *ℤ d) -ℤ p) +ℤ (p -ℤ (l *ℤ d)) ≡ (h -ℤ l) *ℤ d
weights_sum l h p d = by_ring (l ∷ h ∷ p ∷ d ∷ []) ((Var 1 ⊗ Var 3 ⊖ Var 2) ⊕ (Var 2 ⊖ Var 0 ⊗ Var 3)) ((Var 1 ⊖ Var 0) ⊗ Var 3) refl

-- two points of the line with one sweep value
same_x : (k lx ly hx hy px py pd qx qy qd : ℤ) → pos 0 <ℤ (at k hx hy -ℤ at k lx ly)
    → side_of lx ly hx hy px py pd ≡ pos 0 → side_of lx ly hx hy qx qy qd ≡ pos 0 → at k px py *ℤ qd ≡ at k qx qy *ℤ pd → px *ℤ qd ≡ qx *ℤ pd
same_x k lx ly hx hy px py pd qx qy qd positive p q h =
    cancel_eq (at k hx hy -ℤ at k lx ly) (px *ℤ qd) (qx *ℤ pd) positive
    (by_three (k ∷ lx ∷ ly ∷ hx ∷ hy ∷ px ∷ py ∷ pd ∷ qx ∷ qy ∷ qd ∷ []) (height_term ⊗ (Var 5 ⊗ Var 10)) (height_term ⊗ (Var 8 ⊗ Var 7))
    (Neg (Var 10)) (side_term (Var 5) (Var 6) (Var 7)) (Lit (pos 0))
    (Var 7) (side_term (Var 8) (Var 9) (Var 10)) (Lit (pos 0))
    (Var 3 ⊖ Var 1) (at_term (Var 5) (Var 6) ⊗ Var 10) (at_term (Var 8) (Var 9) ⊗ Var 7) refl p q h)

same_y : (k lx ly hx hy px py pd qx qy qd : ℤ) → pos 0 <ℤ (at k hx hy -ℤ at k lx ly)
    → side_of lx ly hx hy px py pd ≡ pos 0 → side_of lx ly hx hy qx qy qd ≡ pos 0 → at k px py *ℤ qd ≡ at k qx qy *ℤ pd → py *ℤ qd ≡ qy *ℤ pd
same_y k lx ly hx hy px py pd qx qy qd positive p q h =
    cancel_eq (at k hx hy -ℤ at k lx ly) (py *ℤ qd) (qy *ℤ pd) positive
    (by_three (k ∷ lx ∷ ly ∷ hx ∷ hy ∷ px ∷ py ∷ pd ∷ qx ∷ qy ∷ qd ∷ []) (height_term ⊗ (Var 6 ⊗ Var 10)) (height_term ⊗ (Var 9 ⊗ Var 7))
    (Var 0 ⊗ Var 10) (side_term (Var 5) (Var 6) (Var 7)) (Lit (pos 0))
    (Neg (Var 0 ⊗ Var 7)) (side_term (Var 8) (Var 9) (Var 10)) (Lit (pos 0))
    (Var 4 ⊖ Var 2) (at_term (Var 5) (Var 6) ⊗ Var 10) (at_term (Var 8) (Var 9) ⊗ Var 7) refl p q h)

-- ---- on the line of a segment that rises

-- a point of the line with a sweep value between those of the ends is on the segment
pub on_from_sweep : (s : Seg) (p : Point) → Rises s → side s p ≡ pos 0
    → (sweep (at_coord s.lo) *ℤ pos p.d) ≤ℤ sweep p → sweep p ≤ℤ (sweep (at_coord s.hi) *ℤ pos p.d) → IsOn s p
unfolding side sweep
on_from_sweep s p rises on_line low high =
    let k = pos (2 ^ 30) in
    let l = at k s.lo.x s.lo.y in
    let h = at k s.hi.x s.hi.y in
    let gap = positive_times_positive {x = h -ℤ l} {y = pos p.d} (omega (arith, lin)) (d_positive p) in
    between_by p (at_coord s.lo) (at_coord s.hi) (h -ℤ l) ((h *ℤ pos p.d) -ℤ at k p.x p.y) (at k p.x p.y -ℤ (l *ℤ pos p.d))
    (omega (arith, lin)) (omega (arith, lin)) (omega (arith, lin, weights_sum l h (at k p.x p.y) (pos p.d)))
    (mean_x k s.lo.x s.lo.y s.hi.x s.hi.y p.x p.y (pos p.d) on_line)
    (mean_y k s.lo.x s.lo.y s.hi.x s.hi.y p.x p.y (pos p.d) on_line)
    (mean_d l h (at k p.x p.y) (pos p.d))

-- two points of the line with one sweep value are one
pub same_from_sweep : (s : Seg) (p q : Point) → Rises s → side s p ≡ pos 0 → side s q ≡ pos 0 → sweep p *ℤ pos q.d ≡ sweep q *ℤ pos p.d → SamePoint p q
unfolding side sweep
same_from_sweep s p q rises on_p on_q h =
    let k = pos (2 ^ 30) in
    let positive : pos 0 <ℤ (at k s.hi.x s.hi.y -ℤ at k s.lo.x s.lo.y) = omega (arith, lin) in (
      same_x k s.lo.x s.lo.y s.hi.x s.hi.y p.x p.y (pos p.d) q.x q.y (pos q.d) positive on_p on_q h,
      same_y k s.lo.x s.lo.y s.hi.x s.hi.y p.x p.y (pos p.d) q.x q.y (pos q.d) positive on_p on_q h,
    )

-- a point of the segment with the sweep value of an end is that end
pub same_as_hi : (s : Seg) (p : Point) → Rises s → side s p ≡ pos 0 → sweep p ≡ sweep (at_coord s.hi) *ℤ pos p.d → SamePoint p (at_coord s.hi)
same_as_hi s p rises on_line h = same_from_sweep s p (at_coord s.hi) rises on_line (side-hi s) (mul_one (sweep p) ∙ h)

pub same_as_lo : (s : Seg) (p : Point) → Rises s → side s p ≡ pos 0 → sweep p ≡ sweep (at_coord s.lo) *ℤ pos p.d → SamePoint p (at_coord s.lo)
same_as_lo s p rises on_line h = same_from_sweep s p (at_coord s.lo) rises on_line (side-lo s) (mul_one (sweep p) ∙ h)

-- the points of a segment that rises are those of its line between the sweep values of its ends
pub on-is : (s : Seg) (p : Point) → Rises s → IsOn s p ↔ ((side s p ≡ pos 0) × ((sweep (at_coord s.lo) *ℤ pos p.d) ≤ℤ sweep p) × (sweep p ≤ℤ (sweep (at_coord s.hi) *ℤ pos p.d)))
on-is s p rises = (
  λ h. (side_zero-on s p h, sweep-on_from s p (le_of_lt rises) h, sweep-on_to s p (le_of_lt rises) h),
  λ h. on_from_sweep s p rises h.0 h.1 h.2,
)
