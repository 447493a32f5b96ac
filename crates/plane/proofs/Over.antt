-- An edge is over a point exactly where the ray from the point meets it.
use mathlib.Core.List.{[], ◌∷◌}
use mathlib.Core.Bool.{Bool, true, false, not, ◌&&◌}
use Rattle.std.proofs.Common.{◌≡◌, refl, sym, ◌∙◌, ap, ℕ, ◌+◌, ◌≤◌, ◌^◌, ℤ, pos, negsuc, ◌+ℤ◌, ◌-ℤ◌, ◌*ℤ◌, ◌<ℤ◌, ◌≤ℤ◌, ⊎_elim, IsTrue, ◌↔◌, int_lt, arith}
use Rattle.integer_laws.proofs.Ring.{lin, by_one, by_two, Term, Var, Lit, ◌⊕◌, ◌⊖◌, ◌⊗◌, mul_zero, mul_one, one_mul}
use Rattle.integer_laws.proofs.Compare.{int_lt_is, not_int_lt_is, le_of_lt, le_cases}
use Rattle.integer_laws.proofs.Cast.{natural, positive_natural}
use Rattle.integer_laws.proofs.Order.{cancel_eq, cancel_le, cancel_lt, by_le_eq, by_lt_eq}
use Rattle.integer_laws.proofs.Sign.{positive_times_negative, negative_factor}
use Rattle.cov_types.specs.declared.seg.Seg.{Seg}
use Rattle.plane.specs.Point.{Point, at_coord}
use Rattle.plane.specs.Segment.{IsOn, side}
use Rattle.plane.specs.Ray.{sweep, sweep_below, Rises, is_over, IsBeyond, MeetsRay}
use Rattle.plane.proofs.Points.{d_positive, between_by}
use Rattle.plane.proofs.Sides.{side_zero-on}
use Rattle.plane.proofs.Sweeps.{sweep-same, sweep-on_from, sweep-on_to, same_as_hi}

-- ---- what the test says

-- lo is not past p, hi is, and p is on the right of the edge
pub record IsOver (e : Seg) (p : Point) : Type 0 where
  pub from : (sweep (at_coord e.lo) *ℤ pos p.d) ≤ℤ sweep p
  pub to : sweep p <ℤ (sweep (at_coord e.hi) *ℤ pos p.d)
  pub below : side e p <ℤ pos 0

three_true : (a b c : Bool) → IsTrue (a && b && c) → IsTrue a × IsTrue b × IsTrue c
three_true true true true h = (refl, refl, refl)
three_true true true false h = absurd (cc)
three_true true false c h = absurd (cc)
three_true false b c h = absurd (cc)

true_three : (a b c : Bool) → IsTrue a → IsTrue b → IsTrue c → IsTrue (a && b && c)
true_three a b c h k l = cc

over-tells : (e : Seg) (p : Point) → IsTrue (is_over e p) → IsOver e p
over-tells e p h =
    let t = three_true (not (sweep_below p (at_coord e.lo))) (sweep_below p (at_coord e.hi)) (int_lt (side e p) (pos 0)) h in
    let one = mul_one (sweep p) in
    let from = (not_int_lt_is (sweep p *ℤ pos 1) (sweep (at_coord e.lo) *ℤ pos p.d)).0 t.0 in
    let to = (int_lt_is (sweep p *ℤ pos 1) (sweep (at_coord e.hi) *ℤ pos p.d)).0 t.1 in
    let below = (int_lt_is (side e p) (pos 0)).0 t.2 in
    record { from = omega (arith, lin); to = omega (arith, lin); below = below }

tells-over : (e : Seg) (p : Point) → IsOver e p → IsTrue (is_over e p)
tells-over e p h =
    let one = mul_one (sweep p) in
    true_three (not (sweep_below p (at_coord e.lo))) (sweep_below p (at_coord e.hi)) (int_lt (side e p) (pos 0))
    ((not_int_lt_is (sweep p *ℤ pos 1) (sweep (at_coord e.lo) *ℤ pos p.d)).1 (omega (arith, lin, h.from)))
    ((int_lt_is (sweep p *ℤ pos 1) (sweep (at_coord e.hi) *ℤ pos p.d)).1 (omega (arith, lin, h.to)))
    ((int_lt_is (side e p) (pos 0)).1 h.below)

pub over-is : (e : Seg) (p : Point) → IsTrue (is_over e p) ↔ IsOver e p
over-is e p = (over-tells e p, tells-over e p)

-- ---- over plain variables: k is 2^30; lx, ly and hx, hy the ends; l, h their sweep values

abbrev side_of : ℤ → ℤ → ℤ → ℤ → ℤ → ℤ → ℤ → ℤ
side_of lx ly hx hy px py pd = ((hx -ℤ lx) *ℤ (py -ℤ (ly *ℤ pd))) -ℤ ((hy -ℤ ly) *ℤ (px -ℤ (lx *ℤ pd)))

-- p and r have one sweep value: how far r is to the right of p is in the ratio of the sides
along_ray : (k lx ly hx hy px py pd rx ry rd : ℤ) → ((k *ℤ rx) +ℤ ry) *ℤ pd ≡ ((k *ℤ px) +ℤ py) *ℤ rd
    → (((k *ℤ hx) +ℤ hy) -ℤ ((k *ℤ lx) +ℤ ly)) *ℤ ((rx *ℤ pd) -ℤ (px *ℤ rd)) ≡ (rd *ℤ side_of lx ly hx hy px py pd) -ℤ (pd *ℤ side_of lx ly hx hy rx ry rd)
along_ray k lx ly hx hy px py pd rx ry rd h =
    let side = λ (x y d : Term). (Var 3 ⊖ Var 1) ⊗ (y ⊖ Var 2 ⊗ d) ⊖ (Var 4 ⊖ Var 2) ⊗ (x ⊖ Var 1 ⊗ d) in
    by_one (k ∷ lx ∷ ly ∷ hx ∷ hy ∷ px ∷ py ∷ pd ∷ rx ∷ ry ∷ rd ∷ [])
    (((Var 0 ⊗ Var 3 ⊕ Var 4) ⊖ (Var 0 ⊗ Var 1 ⊕ Var 2)) ⊗ (Var 8 ⊗ Var 7 ⊖ Var 5 ⊗ Var 10))
    (Var 10 ⊗ side (Var 5) (Var 6) (Var 7) ⊖ Var 7 ⊗ side (Var 8) (Var 9) (Var 10))
    (Var 3 ⊖ Var 1) ((Var 0 ⊗ Var 8 ⊕ Var 9) ⊗ Var 7) ((Var 0 ⊗ Var 5 ⊕ Var 6) ⊗ Var 10) refl h

-- the mean of the ends whose weights are the gaps of the sweep values has the sweep value s/d
mean_sweep : (k lx ly hx hy s d m n : ℤ) → (((k *ℤ hx) +ℤ hy) *ℤ d) -ℤ s ≡ m → s -ℤ (((k *ℤ lx) +ℤ ly) *ℤ d) ≡ n
    → ((k *ℤ ((m *ℤ lx) +ℤ (n *ℤ hx))) +ℤ ((m *ℤ ly) +ℤ (n *ℤ hy))) *ℤ d ≡ s *ℤ (m +ℤ n)
mean_sweep k lx ly hx hy s d m n e f =
    let l = Var 0 ⊗ Var 1 ⊕ Var 2 in
    let h = Var 0 ⊗ Var 3 ⊕ Var 4 in
    by_two (k ∷ lx ∷ ly ∷ hx ∷ hy ∷ s ∷ d ∷ m ∷ n ∷ [])
    ((Var 0 ⊗ (Var 7 ⊗ Var 1 ⊕ Var 8 ⊗ Var 3) ⊕ (Var 7 ⊗ Var 2 ⊕ Var 8 ⊗ Var 4)) ⊗ Var 6) (Var 5 ⊗ (Var 7 ⊕ Var 8))
    (Var 5 ⊖ l ⊗ Var 6) (h ⊗ Var 6 ⊖ Var 5) (Var 7)
    (Var 5 ⊖ h ⊗ Var 6) (Var 5 ⊖ l ⊗ Var 6) (Var 8) refl e f

-- a point with the sweep value s/d at the end h
at_end : (s d r rd h : ℤ) → pos 0 <ℤ rd → r *ℤ d ≡ s *ℤ rd → r *ℤ pos 1 ≡ h *ℤ rd → s ≡ h *ℤ d
at_end s d r rd h positive e f =
    cancel_eq rd s (h *ℤ d) positive
    (by_two (s ∷ d ∷ r ∷ rd ∷ h ∷ []) (Var 3 ⊗ Var 0) (Var 3 ⊗ (Var 4 ⊗ Var 1))
    (Lit (negsuc 0)) (Var 2 ⊗ Var 1) (Var 0 ⊗ Var 3)
    (Var 1) (Var 2 ⊗ Lit (pos 1)) (Var 4 ⊗ Var 3) refl e f)

-- ---- the point of the edge on the ray

further_from : (e : Seg) (p r : Point) → Rises e → side e p <ℤ pos 0 → side e r ≡ pos 0 → sweep r *ℤ pos p.d ≡ sweep p *ℤ pos r.d → (r.x *ℤ pos p.d) <ℤ (p.x *ℤ pos r.d)
unfolding side sweep
further_from e p r rises below on_line h =
    let along = along_ray (pos (2 ^ 30)) e.lo.x e.lo.y e.hi.x e.hi.y p.x p.y (pos p.d) r.x r.y (pos r.d) h in
    let zero = ap (λ x. pos p.d *ℤ x) on_line ∙ mul_zero (pos p.d) in
    let product = positive_times_negative {x = pos r.d} {y = side e p} (d_positive r) below in
    let gap = negative_factor (sweep (at_coord e.hi) -ℤ sweep (at_coord e.lo)) ((r.x *ℤ pos p.d) -ℤ (p.x *ℤ pos r.d)) (omega (arith, lin)) (omega (arith, lin)) in
    omega (arith, lin)

meets_at : (e : Seg) (p : Point) (m n : ℕ) → Rises e → 1 ≤ m → (sweep (at_coord e.hi) *ℤ pos p.d) -ℤ sweep p ≡ pos m → sweep p -ℤ (sweep (at_coord e.lo) *ℤ pos p.d) ≡ pos n
    → side e p <ℤ pos 0 → MeetsRay e p
unfolding sweep
meets_at e p m n rises some high low below =
    let r : Point = record { x = (pos m *ℤ e.lo.x) +ℤ (pos n *ℤ e.hi.x); y = (pos m *ℤ e.lo.y) +ℤ (pos n *ℤ e.hi.y); d = m + n; positive = omega arith } in
    let on : IsOn e r =
    between_by r (at_coord e.lo) (at_coord e.hi) (pos 1) (pos m) (pos n) (omega (arith, lin)) (omega (arith, lin)) (omega (arith, lin))
    (one_mul r.x) (one_mul r.y) (omega (arith, lin, one_mul (pos (m + n)), mul_one (pos m), mul_one (pos n))) in
    let same : sweep r *ℤ pos p.d ≡ sweep p *ℤ pos r.d = mean_sweep (pos (2 ^ 30)) e.lo.x e.lo.y e.hi.x e.hi.y (sweep p) (pos p.d) (pos m) (pos n) high low in
    record {
      at = r;
      on_edge = on;
      beyond = record { on_line = same; further = further_from e p r rises below (side_zero-on e r on) same };
      before_hi = λ one. (let end = at_end (sweep p) (pos p.d) (sweep r) (pos r.d) (sweep (at_coord e.hi)) (d_positive r) same (sweep-same r (at_coord e.hi) one) in omega (arith, lin));
    }

over-meets : (e : Seg) (p : Point) → Rises e → IsOver e p → MeetsRay e p
over-meets e p rises h =
    let m = positive_natural ((sweep (at_coord e.hi) *ℤ pos p.d) -ℤ sweep p) (omega (arith, lin, h.to)) in
    let n = natural (sweep p -ℤ (sweep (at_coord e.lo) *ℤ pos p.d)) (omega (arith, lin, h.from)) in
    meets_at e p m.0 n.0 rises m.1 m.2 n.1 h.below

-- ---- and back: r is a point of the edge on the ray

-- over plain variables: r/rd and s/d are one sweep value, and l is at most it, or h at least
pub low_end : (l r rd s d : ℤ) → pos 0 <ℤ rd → pos 0 ≤ℤ d → (l *ℤ rd) ≤ℤ r → r *ℤ d ≡ s *ℤ rd → (l *ℤ d) ≤ℤ s
low_end l r rd s d positive nonneg h e =
    cancel_le rd (l *ℤ d) s positive
    (by_le_eq (l ∷ r ∷ rd ∷ s ∷ d ∷ []) (Var 2 ⊗ (Var 0 ⊗ Var 4)) (Var 2 ⊗ Var 3)
    (Var 4) (Var 0 ⊗ Var 2) (Var 1) (Lit (pos 1)) (Var 1 ⊗ Var 4) (Var 3 ⊗ Var 2) refl nonneg h e)

pub high_end : (h r rd s d : ℤ) → pos 0 <ℤ rd → pos 0 <ℤ d → r <ℤ (h *ℤ rd) → r *ℤ d ≡ s *ℤ rd → s <ℤ (h *ℤ d)
high_end h r rd s d positive dpos l e =
    cancel_lt rd s (h *ℤ d) (le_of_lt positive)
    (by_lt_eq (h ∷ r ∷ rd ∷ s ∷ d ∷ []) (Var 2 ⊗ Var 3) (Var 2 ⊗ (Var 0 ⊗ Var 4))
    (Var 4) (Var 1) (Var 0 ⊗ Var 2) (Lit (pos 1)) (Var 3 ⊗ Var 2) (Var 1 ⊗ Var 4) refl dpos l (sym e))

below_from : (e : Seg) (p r : Point) → Rises e → side e r ≡ pos 0 → IsBeyond p r → side e p <ℤ pos 0
unfolding side sweep
below_from e p r rises on_line b =
    let along = along_ray (pos (2 ^ 30)) e.lo.x e.lo.y e.hi.x e.hi.y p.x p.y (pos p.d) r.x r.y (pos r.d) b.on_line in
    let zero = ap (λ x. pos p.d *ℤ x) on_line ∙ mul_zero (pos p.d) in
    let further = b.further in
    let product = positive_times_negative {x = sweep (at_coord e.hi) -ℤ sweep (at_coord e.lo)} {y = (r.x *ℤ pos p.d) -ℤ (p.x *ℤ pos r.d)} (omega (arith, lin)) (omega (arith, lin)) in
    negative_factor (pos r.d) (side e p) (omega (arith, lin)) (omega (arith, lin))

meets-over : (e : Seg) (p : Point) → Rises e → MeetsRay e p → IsOver e p
meets-over e p rises m =
    let r = m.at in
    let on_line = side_zero-on e r m.on_edge in
    let from = sweep-on_from e r (le_of_lt rises) m.on_edge in
    let to = sweep-on_to e r (le_of_lt rises) m.on_edge in
    let same = m.beyond.on_line in
    let strict : sweep r <ℤ (sweep (at_coord e.hi) *ℤ pos r.d) =
    ⊎_elim (λ l. l) (λ one. absurd (m.before_hi (same_as_hi e r rises on_line one))) (le_cases to) in
    record {
      from = low_end (sweep (at_coord e.lo)) (sweep r) (pos r.d) (sweep p) (pos p.d) (d_positive r) (le_of_lt (d_positive p)) from same;
      to = high_end (sweep (at_coord e.hi)) (sweep r) (pos r.d) (sweep p) (pos p.d) (d_positive r) (d_positive p) strict same;
      below = below_from e p r rises on_line m.beyond;
    }

-- the edge is over p exactly where the ray from p meets it
pub over-meets_ray : (e : Seg) (p : Point) → Rises e → IsTrue (is_over e p) ↔ MeetsRay e p
over-meets_ray e p rises = (λ h. over-meets e p rises (over-tells e p h), λ m. tells-over e p (meets-over e p rises m))
