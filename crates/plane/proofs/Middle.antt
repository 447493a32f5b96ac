-- The middle between two points of a segment.
use mathlib.Core.List.{[], ◌∷◌}
use Rattle.std.proofs.Common.{◌≡◌, inl, inr, sym, ◌∙◌, ap, refl, ◌*◌, ◌^◌, ℤ, pos, ◌+ℤ◌, ◌*ℤ◌, ◌<ℤ◌, ◌≤ℤ◌, arith}
use Rattle.std.proofs.Math.Nat.{one-le-mul}
use Rattle.integer_laws.proofs.Ring.{lin, by_ring, Var, Lit, ◌⊕◌, ◌⊗◌, mul_one, zero_mul}
use Rattle.integer_laws.proofs.Order.{cancel_eq_right, le_mul, by_le_two}
use Rattle.integer_laws.proofs.Cast.{pos_nonneg}
use Rattle.integer_laws.proofs.Compare.{le_of_lt}
use Rattle.cov_types.specs.declared.seg.Seg.{Seg}
use Rattle.plane.specs.Point.{Point, SamePoint, at_coord}
use Rattle.plane.specs.Segment.{IsOn, IsEnd, side}
use Rattle.plane.specs.Ray.{sweep, Rises}
use Rattle.plane.proofs.Points.{d_positive, same_point-sym, same_point-trans}
use Rattle.plane.proofs.Forms.{form}
use Rattle.plane.proofs.Sides.{side_a, side_b, side_c, side-form, side_zero-on}
use Rattle.plane.proofs.Sweeps.{sweep-form, sweep-same, sweep-on_from, sweep-on_to, on_from_sweep, same_as_hi, same_as_lo}

-- over plain variables: the fractions p/d and q/e, not below l
middle_low : (l p d q e : ℤ) → pos 0 ≤ℤ d → pos 0 ≤ℤ e → (l *ℤ d) ≤ℤ p → (l *ℤ e) ≤ℤ q → (l *ℤ (pos 2 *ℤ (d *ℤ e))) ≤ℤ ((p *ℤ e) +ℤ (q *ℤ d))
middle_low l p d q e hd he h k =
    by_le_two (l ∷ p ∷ d ∷ q ∷ e ∷ []) (Var 0 ⊗ (Lit (pos 2) ⊗ (Var 2 ⊗ Var 4))) (Var 1 ⊗ Var 4 ⊕ Var 3 ⊗ Var 2)
    (Var 4) (Var 0 ⊗ Var 2) (Var 1) (Var 2) (Var 0 ⊗ Var 4) (Var 3) refl he h hd k

middle_high : (l p d q e : ℤ) → pos 0 ≤ℤ d → pos 0 ≤ℤ e → p ≤ℤ (l *ℤ d) → q ≤ℤ (l *ℤ e) → ((p *ℤ e) +ℤ (q *ℤ d)) ≤ℤ (l *ℤ (pos 2 *ℤ (d *ℤ e)))
middle_high l p d q e hd he h k =
    by_le_two (l ∷ p ∷ d ∷ q ∷ e ∷ []) (Var 1 ⊗ Var 4 ⊕ Var 3 ⊗ Var 2) (Var 0 ⊗ (Lit (pos 2) ⊗ (Var 2 ⊗ Var 4)))
    (Var 4) (Var 1) (Var 0 ⊗ Var 2) (Var 2) (Var 3) (Var 0 ⊗ Var 4) refl he h hd k

-- the point in the middle between p and q
unfoldable pub middle : Point → Point → Point
middle p q = record {
  x = (p.x *ℤ pos q.d) +ℤ (q.x *ℤ pos p.d);
  y = (p.y *ℤ pos q.d) +ℤ (q.y *ℤ pos p.d);
  d = 2 * (p.d * q.d);
  positive = (let m = one-le-mul p.positive q.positive in omega arith);
}

-- a form at the middle is the sum of the forms
form-middle : (a b c : ℤ) (p q : Point) → form a b c (middle p q) ≡ (form a b c p *ℤ pos q.d) +ℤ (form a b c q *ℤ pos p.d)
unfolding form middle
form-middle a b c p q =
    by_ring (a ∷ b ∷ c ∷ p.x ∷ p.y ∷ pos p.d ∷ q.x ∷ q.y ∷ pos q.d ∷ [])
    ((Var 0 ⊗ (Var 3 ⊗ Var 8 ⊕ Var 6 ⊗ Var 5) ⊕ Var 1 ⊗ (Var 4 ⊗ Var 8 ⊕ Var 7 ⊗ Var 5)) ⊕ Var 2 ⊗ (Lit (pos 2) ⊗ (Var 5 ⊗ Var 8)))
    (((Var 0 ⊗ Var 3 ⊕ Var 1 ⊗ Var 4) ⊕ Var 2 ⊗ Var 5) ⊗ Var 8 ⊕ ((Var 0 ⊗ Var 6 ⊕ Var 1 ⊗ Var 7) ⊕ Var 2 ⊗ Var 8) ⊗ Var 5) refl

side-middle : (s : Seg) (p q : Point) → IsOn s p → IsOn s q → side s (middle p q) ≡ pos 0
side-middle s p q on_p on_q =
    let at_p = sym (side-form s p) ∙ side_zero-on s p on_p in
    let at_q = sym (side-form s q) ∙ side_zero-on s q on_q in
    let sum = form-middle (side_a s) (side_b s) (side_c s) p q in
    let first = ap (λ v. v *ℤ pos q.d) at_p ∙ zero_mul (pos q.d) in
    let second = ap (λ v. v *ℤ pos p.d) at_q ∙ zero_mul (pos p.d) in
    side-form s (middle p q) ∙ sum ∙ omega (arith, lin)

sweep-middle : (p q : Point) → sweep (middle p q) ≡ (sweep p *ℤ pos q.d) +ℤ (sweep q *ℤ pos p.d)
sweep-middle p q =
    sweep-form (middle p q) ∙ form-middle (pos (2 ^ 30)) (pos 1) (pos 0) p q ∙ (λ i. (sym (sweep-form p) i *ℤ pos q.d) +ℤ (sym (sweep-form q) i *ℤ pos p.d))

-- the middle of two points of a segment is on it
pub middle_on : (s : Seg) (p q : Point) → Rises s → IsOn s p → IsOn s q → IsOn s (middle p q)
unfolding middle
middle_on s p q rises on_p on_q =
    let low = middle_low (sweep (at_coord s.lo)) (sweep p) (pos p.d) (sweep q) (pos q.d) (pos_nonneg p.d) (pos_nonneg q.d)
    (sweep-on_from s p (le_of_lt rises) on_p) (sweep-on_from s q (le_of_lt rises) on_q) in
    let high = middle_high (sweep (at_coord s.hi)) (sweep p) (pos p.d) (sweep q) (pos q.d) (pos_nonneg p.d) (pos_nonneg q.d)
    (sweep-on_to s p (le_of_lt rises) on_p) (sweep-on_to s q (le_of_lt rises) on_q) in
    let sum = sweep-middle p q in
    on_from_sweep s (middle p q) rises (side-middle s p q on_p on_q) (omega (arith, lin)) (omega (arith, lin))

twice_product : (l d e : ℤ) → l *ℤ (pos 2 *ℤ (d *ℤ e)) ≡ ((l *ℤ d) *ℤ e) +ℤ ((l *ℤ e) *ℤ d)
twice_product l d e = by_ring (l ∷ d ∷ e ∷ []) (Var 0 ⊗ (Lit (pos 2) ⊗ (Var 1 ⊗ Var 2))) ((Var 0 ⊗ Var 1) ⊗ Var 2 ⊕ (Var 0 ⊗ Var 2) ⊗ Var 1) refl

-- over plain variables: if the middle has the lowest or the highest value, both have
extreme_low : (l p d q e : ℤ) → pos 0 <ℤ d → pos 0 <ℤ e → (l *ℤ d) ≤ℤ p → (l *ℤ e) ≤ℤ q → (p *ℤ e) +ℤ (q *ℤ d) ≡ l *ℤ (pos 2 *ℤ (d *ℤ e))
    → (p ≡ l *ℤ d) × (q ≡ l *ℤ e)
extreme_low l p d q e hd he h k sum =
    let twice = twice_product l d e in
    let first = le_mul e (le_of_lt he) h in
    let second = le_mul d (le_of_lt hd) k in
    (cancel_eq_right e p (l *ℤ d) he (omega (arith, lin)), cancel_eq_right d q (l *ℤ e) hd (omega (arith, lin)))

extreme_high : (l p d q e : ℤ) → pos 0 <ℤ d → pos 0 <ℤ e → p ≤ℤ (l *ℤ d) → q ≤ℤ (l *ℤ e) → (p *ℤ e) +ℤ (q *ℤ d) ≡ l *ℤ (pos 2 *ℤ (d *ℤ e))
    → (p ≡ l *ℤ d) × (q ≡ l *ℤ e)
extreme_high l p d q e hd he h k sum =
    let twice = twice_product l d e in
    let first = le_mul e (le_of_lt he) h in
    let second = le_mul d (le_of_lt hd) k in
    (cancel_eq_right e p (l *ℤ d) he (omega (arith, lin)), cancel_eq_right d q (l *ℤ e) hd (omega (arith, lin)))

-- where the middle is an end, both points are
middle_at_lo : (s : Seg) (p q : Point) → Rises s → IsOn s p → IsOn s q → SamePoint (middle p q) (at_coord s.lo) → SamePoint p (at_coord s.lo) × SamePoint q (at_coord s.lo)
unfolding middle
middle_at_lo s p q rises on_p on_q same =
    let low_p = sweep-on_from s p (le_of_lt rises) on_p in
    let low_q = sweep-on_from s q (le_of_lt rises) on_q in
    let sum = sym (sweep-middle p q) ∙ sym (mul_one (sweep (middle p q))) ∙ sweep-same (middle p q) (at_coord s.lo) same in
    let both = extreme_low (sweep (at_coord s.lo)) (sweep p) (pos p.d) (sweep q) (pos q.d) (d_positive p) (d_positive q) low_p low_q sum in
    (same_as_lo s p rises (side_zero-on s p on_p) both.0, same_as_lo s q rises (side_zero-on s q on_q) both.1)

middle_at_hi : (s : Seg) (p q : Point) → Rises s → IsOn s p → IsOn s q → SamePoint (middle p q) (at_coord s.hi) → SamePoint p (at_coord s.hi) × SamePoint q (at_coord s.hi)
unfolding middle
middle_at_hi s p q rises on_p on_q same =
    let high_p = sweep-on_to s p (le_of_lt rises) on_p in
    let high_q = sweep-on_to s q (le_of_lt rises) on_q in
    let sum = sym (sweep-middle p q) ∙ sym (mul_one (sweep (middle p q))) ∙ sweep-same (middle p q) (at_coord s.hi) same in
    let both = extreme_high (sweep (at_coord s.hi)) (sweep p) (pos p.d) (sweep q) (pos q.d) (d_positive p) (d_positive q) high_p high_q sum in
    (same_as_hi s p rises (side_zero-on s p on_p) both.0, same_as_hi s q rises (side_zero-on s q on_q) both.1)

-- so the middle of two different points of a segment is not an end
pub middle_not_end : (s : Seg) (p q : Point) → Rises s → IsOn s p → IsOn s q → ¬ SamePoint p q → ¬ IsEnd s (middle p q)
middle_not_end s p q rises on_p on_q different (inl lo) =
    let both = middle_at_lo s p q rises on_p on_q lo in
    different (same_point-trans p (at_coord s.lo) q both.0 (same_point-sym q (at_coord s.lo) both.1))
middle_not_end s p q rises on_p on_q different (inr hi) =
    let both = middle_at_hi s p q rises on_p on_q hi in
    different (same_point-trans p (at_coord s.hi) q both.0 (same_point-sym q (at_coord s.hi) both.1))
