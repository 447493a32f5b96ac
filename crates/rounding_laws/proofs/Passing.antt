-- The order in which a segment passes its points: by their sweep values.
use mathlib.Core.List.{[], ◌∷◌}
use Rattle.std.proofs.Common.{◌≡◌, inl, inr, refl, sym, ◌∙◌, ◌^◌, ℤ, pos, neg_ℤ, ◌-ℤ◌, ◌*ℤ◌, ◌<ℤ◌, ◌≤ℤ◌, arith}
use Rattle.integer_laws.proofs.Ring.{lin, by_ring, Var, ◌⊕◌, ◌⊖◌, ◌⊗◌, Neg, mul_one}
use Rattle.integer_laws.proofs.Compare.{le_of_lt, le_cases}
use Rattle.cov_types.specs.declared.seg.Seg.{Seg}
use Rattle.plane.specs.Point.{Point, IsBetween, at_coord}
use Rattle.plane.specs.Segment.{IsOn}
use Rattle.plane.specs.Ray.{sweep, Rises}
use Rattle.plane.specs.Snapping.{IsBefore}
use Rattle.plane.proofs.Forms.{form, form_not_negative-between, form_not_positive-between, form_zero-between}
use Rattle.plane.proofs.Sides.{side_a, side_b, side_c, side-form, side_zero-on}
use Rattle.plane.proofs.Sweeps.{sweep-on_from, sweep-on_to, on_from_sweep, same_from_sweep}

-- how far the sweep value of a point is above k/e, times both denominators
sweep-scaled : (e k : ℤ) (p : Point) → form (e *ℤ pos (2 ^ 30)) e (neg_ℤ k) p ≡ (sweep p *ℤ e) -ℤ (k *ℤ pos p.d)
unfolding sweep form
sweep-scaled e k p =
    by_ring (pos (2 ^ 30) ∷ p.x ∷ p.y ∷ pos p.d ∷ e ∷ k ∷ [])
    (((Var 4 ⊗ Var 0) ⊗ Var 1 ⊕ Var 4 ⊗ Var 2) ⊕ Neg (Var 5) ⊗ Var 3) ((Var 0 ⊗ Var 1 ⊕ Var 2) ⊗ Var 4 ⊖ Var 5 ⊗ Var 3) refl

-- a point between p and q, where q is not before p, is not before p, and not after q
pub between_from : (m p q : Point) → IsBetween m p q → (sweep p *ℤ pos q.d) ≤ℤ (sweep q *ℤ pos p.d) → (sweep p *ℤ pos m.d) ≤ℤ (sweep m *ℤ pos p.d)
between_from m p q h le =
    let at = sweep-scaled (pos p.d) (sweep p) in
    let above = form_not_negative-between (pos p.d *ℤ pos (2 ^ 30)) (pos p.d) (neg_ℤ (sweep p)) m p q h (omega (arith, lin, at p)) (omega (arith, lin, at q)) in
    omega (arith, lin, at m)

pub between_to : (m p q : Point) → IsBetween m p q → (sweep p *ℤ pos q.d) ≤ℤ (sweep q *ℤ pos p.d) → (sweep m *ℤ pos q.d) ≤ℤ (sweep q *ℤ pos m.d)
between_to m p q h le =
    let at = sweep-scaled (pos q.d) (sweep q) in
    let below = form_not_positive-between (pos q.d *ℤ pos (2 ^ 30)) (pos q.d) (neg_ℤ (sweep q)) m p q h (omega (arith, lin, at p)) (omega (arith, lin, at q)) in
    omega (arith, lin, at m)

-- a point between two points of a segment is on it
pub between_on : (s : Seg) (m p q : Point) → Rises s → IsOn s p → IsOn s q → IsBetween m p q → IsOn s m
between_on s m p q rises on_p on_q h =
    let at = sweep-scaled (pos 1) in
    let lo = sweep (at_coord s.lo) in
    let hi = sweep (at_coord s.hi) in
    let p_low = sweep-on_from s p (le_of_lt rises) on_p in
    let q_low = sweep-on_from s q (le_of_lt rises) on_q in
    let p_high = sweep-on_to s p (le_of_lt rises) on_p in
    let q_high = sweep-on_to s q (le_of_lt rises) on_q in
    let low = form_not_negative-between (pos 1 *ℤ pos (2 ^ 30)) (pos 1) (neg_ℤ lo) m p q h
    (omega (arith, lin, at lo p, mul_one (sweep p))) (omega (arith, lin, at lo q, mul_one (sweep q))) in
    let high = form_not_positive-between (pos 1 *ℤ pos (2 ^ 30)) (pos 1) (neg_ℤ hi) m p q h
    (omega (arith, lin, at hi p, mul_one (sweep p))) (omega (arith, lin, at hi q, mul_one (sweep q))) in
    let line = form_zero-between (side_a s) (side_b s) (side_c s) m p q h
    (sym (side-form s p) ∙ side_zero-on s p on_p) (sym (side-form s q) ∙ side_zero-on s q on_q) in
    on_from_sweep s m rises (side-form s m ∙ line) (omega (arith, lin, at lo m, mul_one (sweep m))) (omega (arith, lin, at hi m, mul_one (sweep m)))

-- a point that the segment passes first has the lesser sweep value
pub before_sweep : (s : Seg) (p q : Point) → Rises s → IsOn s p → IsOn s q → IsBefore s p q → (sweep p *ℤ pos q.d) <ℤ (sweep q *ℤ pos p.d)
before_sweep s p q rises on_p on_q h =
    let from_lo = sweep-on_from s q (le_of_lt rises) on_q in
    let le = between_to p (at_coord s.lo) q h.0 (omega (arith, lin, mul_one (sweep q))) in
    elim (le_cases le) [
      | inl l ↦ l
      | inr level ↦ absurd (h.1 (same_from_sweep s p q rises (side_zero-on s p on_p) (side_zero-on s q on_q) level))
    ]
