-- Linear forms a·x + b·y + c·d at points, and their signs between two points.
use mathlib.Core.List.{[], ◌∷◌}
use Rattle.std.proofs.Common.{◌≡◌, refl, ◌∙◌, ap, ℕ, zero, suc, ◌+◌, ◌*◌, ◌≤◌, ℤ, pos, neg_ℤ, ◌+ℤ◌, ◌*ℤ◌, ◌<ℤ◌, ◌≤ℤ◌, arith}
use Rattle.integer_laws.proofs.Ring.{lin, by_ring, by_two, Term, Var, ◌⊕◌, ◌⊗◌, Neg, mul_comm}
use Rattle.integer_laws.proofs.Compare.{le_of_lt}
use Rattle.integer_laws.proofs.Sign.{nonneg_times_nonneg, positive_times_positive, nonneg_factor, positive_factor}
use Rattle.plane.specs.Point.{Point, SamePoint, IsBetween}
use Rattle.plane.proofs.Points.{d_positive, weights_positive}

-- the form with the coefficients a, b, c at a point, times the point's denominator
unfoldable pub form : ℤ → ℤ → ℤ → Point → ℤ
form a b c p = ((a *ℤ p.x) +ℤ (b *ℤ p.y)) +ℤ (c *ℤ pos p.d)

-- ---- over plain variables: a mean with the weights m and n, whose sum is w

-- rx, ry, rd is the mean of p and q
form_of_mean : (a b c rx ry rd px py pd qx qy qd m n : ℤ)
    → rx *ℤ ((m *ℤ pd) +ℤ (n *ℤ qd)) ≡ rd *ℤ ((m *ℤ px) +ℤ (n *ℤ qx))
    → ry *ℤ ((m *ℤ pd) +ℤ (n *ℤ qd)) ≡ rd *ℤ ((m *ℤ py) +ℤ (n *ℤ qy))
    → (((a *ℤ rx) +ℤ (b *ℤ ry)) +ℤ (c *ℤ rd)) *ℤ ((m *ℤ pd) +ℤ (n *ℤ qd))
    ≡ rd *ℤ ((m *ℤ (((a *ℤ px) +ℤ (b *ℤ py)) +ℤ (c *ℤ pd))) +ℤ (n *ℤ (((a *ℤ qx) +ℤ (b *ℤ qy)) +ℤ (c *ℤ qd))))
form_of_mean a b c rx ry rd px py pd qx qy qd m n h k =
    let at = λ (x y d : Term). (Var 0 ⊗ x ⊕ Var 1 ⊗ y) ⊕ Var 2 ⊗ d in
    let weight = Var 12 ⊗ Var 8 ⊕ Var 13 ⊗ Var 11 in
    by_two (a ∷ b ∷ c ∷ rx ∷ ry ∷ rd ∷ px ∷ py ∷ pd ∷ qx ∷ qy ∷ qd ∷ m ∷ n ∷ [])
    (at (Var 3) (Var 4) (Var 5) ⊗ weight) (Var 5 ⊗ (Var 12 ⊗ at (Var 6) (Var 7) (Var 8) ⊕ Var 13 ⊗ at (Var 9) (Var 10) (Var 11)))
    (Var 0) (Var 3 ⊗ weight) (Var 5 ⊗ (Var 12 ⊗ Var 6 ⊕ Var 13 ⊗ Var 9))
    (Var 1) (Var 4 ⊗ weight) (Var 5 ⊗ (Var 12 ⊗ Var 7 ⊕ Var 13 ⊗ Var 10)) refl h k

mean_not_negative : (r w d m p n q : ℤ) → pos 0 <ℤ w → pos 0 <ℤ d → pos 0 ≤ℤ m → pos 0 ≤ℤ n
    → r *ℤ w ≡ d *ℤ ((m *ℤ p) +ℤ (n *ℤ q)) → pos 0 ≤ℤ p → pos 0 ≤ℤ q → pos 0 ≤ℤ r
mean_not_negative r w d m p n q hw hd hm hn e hp hq =
    let mp = nonneg_times_nonneg hm hp in
    let nq = nonneg_times_nonneg hn hq in
    let sum = nonneg_times_nonneg {x = d} {y = (m *ℤ p) +ℤ (n *ℤ q)} (omega (arith, lin)) (omega (arith, lin)) in
    nonneg_factor w r hw (omega (arith, lin, mul_comm r w))

-- one weight and the value at it are positive
mean_positive : (r w d m p n q : ℤ) → pos 0 <ℤ w → pos 0 <ℤ d → pos 0 <ℤ m → pos 0 ≤ℤ n
    → r *ℤ w ≡ d *ℤ ((m *ℤ p) +ℤ (n *ℤ q)) → pos 0 <ℤ p → pos 0 ≤ℤ q → pos 0 <ℤ r
mean_positive r w d m p n q hw hd hm hn e hp hq =
    let mp = positive_times_positive hm hp in
    let nq = nonneg_times_nonneg hn hq in
    let sum = positive_times_positive {x = d} {y = (m *ℤ p) +ℤ (n *ℤ q)} hd (omega (arith, lin)) in
    positive_factor w r (le_of_lt hw) (omega (arith, lin, mul_comm r w))

-- ---- points between two points

pub between_weight : (r p q : Point) (h : IsBetween r p q) → pos 0 <ℤ pos (h.first * p.d + h.second * q.d)
between_weight r p q h =
    let w = weights_positive h.first h.second p.d q.d h.weighted p.positive q.positive in
    omega (arith, lin)

-- a form at a mean is the mean of the form
pub form-between : (a b c : ℤ) (r p q : Point) (h : IsBetween r p q)
    → form a b c r *ℤ pos (h.first * p.d + h.second * q.d) ≡ pos r.d *ℤ ((pos h.first *ℤ form a b c p) +ℤ (pos h.second *ℤ form a b c q))
unfolding form
form-between a b c r p q h = form_of_mean a b c r.x r.y (pos r.d) p.x p.y (pos p.d) q.x q.y (pos q.d) (pos h.first) (pos h.second) h.x h.y

-- not negative at both: not negative between
pub form_not_negative-between : (a b c : ℤ) (r p q : Point) → IsBetween r p q → pos 0 ≤ℤ form a b c p → pos 0 ≤ℤ form a b c q → pos 0 ≤ℤ form a b c r
form_not_negative-between a b c r p q h hp hq =
    mean_not_negative (form a b c r) (pos (h.first * p.d + h.second * q.d)) (pos r.d) (pos h.first) (form a b c p) (pos h.second) (form a b c q)
    (between_weight r p q h) (d_positive r) (omega (arith, lin)) (omega (arith, lin)) (form-between a b c r p q h) hp hq

positive_from_weights : (a b c : ℤ) (r p q : Point) (h : IsBetween r p q) (m n : ℕ) → h.first ≡ m → h.second ≡ n → 1 ≤ m + n
    → pos 0 <ℤ form a b c p → pos 0 <ℤ form a b c q → pos 0 <ℤ form a b c r
positive_from_weights a b c r p q h zero zero e f w hp hq = absurd (omega arith)
positive_from_weights a b c r p q h zero (suc n) e f w hp hq =
    let second : pos 0 <ℤ pos h.second = omega (arith, lin) in
    let swapped : form a b c r *ℤ pos (h.first * p.d + h.second * q.d) ≡ pos r.d *ℤ ((pos h.second *ℤ form a b c q) +ℤ (pos h.first *ℤ form a b c p)) =
    form-between a b c r p q h ∙ ap (λ x. pos r.d *ℤ x) (omega (arith, lin)) in
    mean_positive (form a b c r) (pos (h.first * p.d + h.second * q.d)) (pos r.d) (pos h.second) (form a b c q) (pos h.first) (form a b c p)
    (between_weight r p q h) (d_positive r) second (omega (arith, lin)) swapped hq (omega (arith, lin))
positive_from_weights a b c r p q h (suc m) n e f w hp hq =
    let first : pos 0 <ℤ pos h.first = omega (arith, lin) in
    mean_positive (form a b c r) (pos (h.first * p.d + h.second * q.d)) (pos r.d) (pos h.first) (form a b c p) (pos h.second) (form a b c q)
    (between_weight r p q h) (d_positive r) first (omega (arith, lin)) (form-between a b c r p q h) hp (omega (arith, lin))

-- positive at both: positive between
pub form_positive-between : (a b c : ℤ) (r p q : Point) → IsBetween r p q → pos 0 <ℤ form a b c p → pos 0 <ℤ form a b c q → pos 0 <ℤ form a b c r
form_positive-between a b c r p q h hp hq = positive_from_weights a b c r p q h h.first h.second refl refl h.weighted hp hq

-- not negative at both, positive at the first, which has a weight: positive between
pub form_positive-first : (a b c : ℤ) (r p q : Point) (h : IsBetween r p q) → 1 ≤ h.first → pos 0 <ℤ form a b c p → pos 0 ≤ℤ form a b c q → pos 0 <ℤ form a b c r
form_positive-first a b c r p q h w hp hq =
    mean_positive (form a b c r) (pos (h.first * p.d + h.second * q.d)) (pos r.d) (pos h.first) (form a b c p) (pos h.second) (form a b c q)
    (between_weight r p q h) (d_positive r) (omega (arith, lin)) (omega (arith, lin)) (form-between a b c r p q h) hp hq

-- the form with the opposite coefficients
pub form-neg : (a b c : ℤ) (p : Point) → form (neg_ℤ a) (neg_ℤ b) (neg_ℤ c) p ≡ neg_ℤ (form a b c p)
unfolding form
form-neg a b c p =
    by_ring (a ∷ b ∷ c ∷ p.x ∷ p.y ∷ pos p.d ∷ [])
    ((Neg (Var 0) ⊗ Var 3 ⊕ Neg (Var 1) ⊗ Var 4) ⊕ Neg (Var 2) ⊗ Var 5)
    (Neg ((Var 0 ⊗ Var 3 ⊕ Var 1 ⊗ Var 4) ⊕ Var 2 ⊗ Var 5)) refl

-- not positive at both: not positive between
pub form_not_positive-between : (a b c : ℤ) (r p q : Point) → IsBetween r p q → form a b c p ≤ℤ pos 0 → form a b c q ≤ℤ pos 0 → form a b c r ≤ℤ pos 0
form_not_positive-between a b c r p q h hp hq =
    let at = form-neg a b c in
    let opposite = form_not_negative-between (neg_ℤ a) (neg_ℤ b) (neg_ℤ c) r p q h (omega (arith, lin, at p)) (omega (arith, lin, at q)) in
    omega (arith, lin, at r)

-- negative at both: negative between
pub form_negative-between : (a b c : ℤ) (r p q : Point) → IsBetween r p q → form a b c p <ℤ pos 0 → form a b c q <ℤ pos 0 → form a b c r <ℤ pos 0
form_negative-between a b c r p q h hp hq =
    let at = form-neg a b c in
    let opposite = form_positive-between (neg_ℤ a) (neg_ℤ b) (neg_ℤ c) r p q h (omega (arith, lin, at p)) (omega (arith, lin, at q)) in
    omega (arith, lin, at r)

-- zero at both: zero between
pub form_zero-between : (a b c : ℤ) (r p q : Point) → IsBetween r p q → form a b c p ≡ pos 0 → form a b c q ≡ pos 0 → form a b c r ≡ pos 0
form_zero-between a b c r p q h hp hq =
    let low = form_not_negative-between a b c r p q h (omega (arith, lin)) (omega (arith, lin)) in
    let high = form_not_positive-between a b c r p q h (omega (arith, lin)) (omega (arith, lin)) in
    omega (arith, lin)

-- a form has the same value, times the other denominator, at one point
pub form-same : (a b c : ℤ) (p q : Point) → SamePoint p q → form a b c p *ℤ pos q.d ≡ form a b c q *ℤ pos p.d
unfolding form
form-same a b c p q h =
    let at = λ (x y d : Term). (Var 0 ⊗ x ⊕ Var 1 ⊗ y) ⊕ Var 2 ⊗ d in
    by_two (a ∷ b ∷ c ∷ p.x ∷ p.y ∷ pos p.d ∷ q.x ∷ q.y ∷ pos q.d ∷ [])
    (at (Var 3) (Var 4) (Var 5) ⊗ Var 8) (at (Var 6) (Var 7) (Var 8) ⊗ Var 5)
    (Var 0) (Var 3 ⊗ Var 8) (Var 6 ⊗ Var 5)
    (Var 1) (Var 4 ⊗ Var 8) (Var 7 ⊗ Var 5) refl h.0 h.1
