-- The sides of two segments against each other: one equation ties the four ends, and opposite sides give a common point.
use mathlib.Core.List.{[], ◌∷◌}
use Rattle.std.proofs.Common.{◌≡◌, refl, ◌∙◌, ap, ℕ, ◌+◌, ◌*◌, ◌≤◌, ℤ, pos, negsuc, neg_ℤ, ◌+ℤ◌, ◌-ℤ◌, ◌*ℤ◌, ◌≤ℤ◌, ◌<ℤ◌, inl, inr, arith}
use Rattle.cov_types.specs.declared.seg.Seg.{Seg}
use Rattle.integer_laws.proofs.Ring.{lin, by_ring, by_one, Term, Var, Lit, ◌⊕◌, ◌⊖◌, ◌⊗◌, Neg, mul_comm, mul_one, one_mul, zero_mul}
use Rattle.integer_laws.proofs.Compare.{lt_or_ge}
use Rattle.integer_laws.proofs.Cast.{pos_nonneg, pos_injective, natural}
use Rattle.plane.specs.Point.{Point, at_coord, IsBetween}
use Rattle.plane.specs.Segment.{side, IsOn}
use Rattle.plane.proofs.Points.{between_by, weights_positive}
use Rattle.crossing_laws.specs.Meeting.{side_from, IsMeeting}

-- ---- four points of the plane, over plain variables: the edge from (lx, ly) to (hx, hy), the points (px, py, pd) and (qx, qy, qd)

-- the side of (px, py, pd) against the edge
abbrev edge_side : (lx ly hx hy px py pd : ℤ) → ℤ
edge_side lx ly hx hy px py pd = ((hx -ℤ lx) *ℤ (py -ℤ (ly *ℤ pd))) -ℤ ((hy -ℤ ly) *ℤ (px -ℤ (lx *ℤ pd)))

-- the side of (vx, vy) against the way from p to q
abbrev way_side : (px py pd qx qy qd vx vy : ℤ) → ℤ
way_side px py pd qx qy qd vx vy = ((px *ℤ (qy -ℤ (qd *ℤ vy))) -ℤ (py *ℤ (qx -ℤ (qd *ℤ vx)))) +ℤ (pd *ℤ ((qx *ℤ vy) -ℤ (qy *ℤ vx)))

abbrev edge_side_term : (lx ly hx hy px py pd : Term) → Term
edge_side_term lx ly hx hy px py pd = (hx ⊖ lx) ⊗ (py ⊖ ly ⊗ pd) ⊖ (hy ⊖ ly) ⊗ (px ⊖ lx ⊗ pd)

abbrev way_side_term : (px py pd qx qy qd vx vy : Term) → Term
way_side_term px py pd qx qy qd vx vy = px ⊗ (qy ⊖ qd ⊗ vy) ⊖ py ⊗ (qx ⊖ qd ⊗ vx) ⊕ pd ⊗ (qx ⊗ vy ⊖ qy ⊗ vx)

-- the four sides, of p, q, hi and lo, where the variables are numbered in the order lx ly hx hy px py pd qx qy qd
abbrev p_side_term : Term
p_side_term = edge_side_term (Var 0) (Var 1) (Var 2) (Var 3) (Var 4) (Var 5) (Var 6)

abbrev q_side_term : Term
q_side_term = edge_side_term (Var 0) (Var 1) (Var 2) (Var 3) (Var 7) (Var 8) (Var 9)

abbrev hi_side_term : Term
hi_side_term = way_side_term (Var 4) (Var 5) (Var 6) (Var 7) (Var 8) (Var 9) (Var 2) (Var 3)

abbrev lo_side_term : Term
lo_side_term = way_side_term (Var 4) (Var 5) (Var 6) (Var 7) (Var 8) (Var 9) (Var 0) (Var 1)

tied_x : (lx ly hx hy px py pd qx qy qd : ℤ)
    → (edge_side lx ly hx hy qx qy qd *ℤ px) -ℤ (edge_side lx ly hx hy px py pd *ℤ qx)
    ≡ (way_side px py pd qx qy qd lx ly *ℤ hx) -ℤ (way_side px py pd qx qy qd hx hy *ℤ lx)
tied_x lx ly hx hy px py pd qx qy qd =
    by_ring (lx ∷ ly ∷ hx ∷ hy ∷ px ∷ py ∷ pd ∷ qx ∷ qy ∷ qd ∷ [])
    (q_side_term ⊗ Var 4 ⊖ p_side_term ⊗ Var 7) (lo_side_term ⊗ Var 2 ⊖ hi_side_term ⊗ Var 0) refl

tied_y : (lx ly hx hy px py pd qx qy qd : ℤ)
    → (edge_side lx ly hx hy qx qy qd *ℤ py) -ℤ (edge_side lx ly hx hy px py pd *ℤ qy)
    ≡ (way_side px py pd qx qy qd lx ly *ℤ hy) -ℤ (way_side px py pd qx qy qd hx hy *ℤ ly)
tied_y lx ly hx hy px py pd qx qy qd =
    by_ring (lx ∷ ly ∷ hx ∷ hy ∷ px ∷ py ∷ pd ∷ qx ∷ qy ∷ qd ∷ [])
    (q_side_term ⊗ Var 5 ⊖ p_side_term ⊗ Var 8) (lo_side_term ⊗ Var 3 ⊖ hi_side_term ⊗ Var 1) refl

tied_d : (lx ly hx hy px py pd qx qy qd : ℤ)
    → (edge_side lx ly hx hy qx qy qd *ℤ pd) -ℤ (edge_side lx ly hx hy px py pd *ℤ qd)
    ≡ way_side px py pd qx qy qd lx ly -ℤ way_side px py pd qx qy qd hx hy
tied_d lx ly hx hy px py pd qx qy qd =
    by_ring (lx ∷ ly ∷ hx ∷ hy ∷ px ∷ py ∷ pd ∷ qx ∷ qy ∷ qd ∷ [])
    (q_side_term ⊗ Var 6 ⊖ p_side_term ⊗ Var 9) (lo_side_term ⊖ hi_side_term) refl

-- ---- an edge and two points

-- at_q · p - at_p · q = at_lo · hi - at_hi · lo, as vectors
pub record IsTied (e : Seg) (p q : Point) (at_p at_q at_hi at_lo : ℤ) : Type 0 where
  pub x : (at_q *ℤ p.x) -ℤ (at_p *ℤ q.x) ≡ (at_lo *ℤ e.hi.x) -ℤ (at_hi *ℤ e.lo.x)
  pub y : (at_q *ℤ p.y) -ℤ (at_p *ℤ q.y) ≡ (at_lo *ℤ e.hi.y) -ℤ (at_hi *ℤ e.lo.y)
  pub d : (at_q *ℤ pos p.d) -ℤ (at_p *ℤ pos q.d) ≡ at_lo -ℤ at_hi

-- the four sides are so tied
pub sides_tie : (e : Seg) (p q : Point) → IsTied e p q (side e p) (side e q) (side_from p q e.hi) (side_from p q e.lo)
unfolding side side_from
sides_tie e p q = record {
  x = tied_x e.lo.x e.lo.y e.hi.x e.hi.y p.x p.y (pos p.d) q.x q.y (pos q.d);
  y = tied_y e.lo.x e.lo.y e.hi.x e.hi.y p.x p.y (pos p.d) q.x q.y (pos q.d);
  d = tied_d e.lo.x e.lo.y e.hi.x e.hi.y p.x p.y (pos p.d) q.x q.y (pos q.d);
}

negated : (a p b q c h d l : ℤ) → (a *ℤ p) -ℤ (b *ℤ q) ≡ (c *ℤ h) -ℤ (d *ℤ l)
    → (neg_ℤ a *ℤ p) -ℤ (neg_ℤ b *ℤ q) ≡ (neg_ℤ c *ℤ h) -ℤ (neg_ℤ d *ℤ l)
negated a p b q c h d l e =
    by_one (a ∷ p ∷ b ∷ q ∷ c ∷ h ∷ d ∷ l ∷ [])
    (Neg (Var 0) ⊗ Var 1 ⊖ Neg (Var 2) ⊗ Var 3) (Neg (Var 4) ⊗ Var 5 ⊖ Neg (Var 6) ⊗ Var 7)
    (Lit (negsuc 0)) (Var 0 ⊗ Var 1 ⊖ Var 2 ⊗ Var 3) (Var 4 ⊗ Var 5 ⊖ Var 6 ⊗ Var 7) refl e

-- and so are the negated sides
pub tied_negated : (e : Seg) (p q : Point) (at_p at_q at_hi at_lo : ℤ) → IsTied e p q at_p at_q at_hi at_lo
    → IsTied e p q (neg_ℤ at_p) (neg_ℤ at_q) (neg_ℤ at_hi) (neg_ℤ at_lo)
tied_negated e p q at_p at_q at_hi at_lo t = record {
  x = negated at_q p.x at_p q.x at_lo e.hi.x at_hi e.lo.x t.x;
  y = negated at_q p.y at_p q.y at_lo e.hi.y at_hi e.lo.y t.y;
  d =
      by_one (at_q ∷ pos p.d ∷ at_p ∷ pos q.d ∷ at_lo ∷ at_hi ∷ [])
      (Neg (Var 0) ⊗ Var 1 ⊖ Neg (Var 2) ⊗ Var 3) (Neg (Var 4) ⊖ Neg (Var 5))
      (Lit (negsuc 0)) (Var 0 ⊗ Var 1 ⊖ Var 2 ⊗ Var 3) (Var 4 ⊖ Var 5) refl t.d;
}

-- ---- opposite sides give a common point

-- the sides are opposite, each to the other
pub record AreCrossed (at_p at_q at_hi at_lo : ℤ) : Type 0 where
  pub p : at_p ≤ℤ pos 0
  pub q : pos 0 ≤ℤ at_q
  pub hi : at_hi ≤ℤ pos 0
  pub lo : pos 0 ≤ℤ at_lo

-- the sum of p and q with the weights m and n is that of lo and hi with the weights h and l
meeting_of_sums : (e : Seg) (p q : Point) (m n h l : ℕ) → 1 ≤ m + n
    → (pos m *ℤ p.x) +ℤ (pos n *ℤ q.x) ≡ (pos h *ℤ e.lo.x) +ℤ (pos l *ℤ e.hi.x)
    → (pos m *ℤ p.y) +ℤ (pos n *ℤ q.y) ≡ (pos h *ℤ e.lo.y) +ℤ (pos l *ℤ e.hi.y)
    → m * p.d + n * q.d ≡ h + l
    → (r : Point) × IsMeeting e p q m n r
meeting_of_sums e p q m n h l w ex ey ed =
    let positive = weights_positive m n p.d q.d w p.positive q.positive in
    let x = (pos m *ℤ p.x) +ℤ (pos n *ℤ q.x) in
    let y = (pos m *ℤ p.y) +ℤ (pos n *ℤ q.y) in
    let d = m * p.d + n * q.d in
    let r : Point = record { x = x; y = y; d = d; positive = positive } in
    let total : pos d ≡ pos h +ℤ pos l = ap pos ed in (
      r,
      record {
        sum = record { x = refl; y = refl; d = refl };
        between = record { first = m; second = n; weighted = w; x = mul_comm x (pos d); y = mul_comm y (pos d) };
        on_segment =
            between_by r (at_coord e.lo) (at_coord e.hi) (pos 1) (pos h) (pos l) (pos_nonneg h) (pos_nonneg l) (omega (arith, lin))
            (one_mul x ∙ ex) (one_mul y ∙ ey) (omega (arith, lin, one_mul (pos d), mul_one (pos h), mul_one (pos l)));
      },
    )

-- over plain variables: the weights without their signs
unsigned : (m p n q l hi h lo : ℤ) → (m *ℤ p) -ℤ (neg_ℤ n *ℤ q) ≡ (l *ℤ hi) -ℤ (neg_ℤ h *ℤ lo) → (m *ℤ p) +ℤ (n *ℤ q) ≡ (h *ℤ lo) +ℤ (l *ℤ hi)
unsigned m p n q l hi h lo e =
    by_one (m ∷ p ∷ n ∷ q ∷ l ∷ hi ∷ h ∷ lo ∷ [])
    (Var 0 ⊗ Var 1 ⊕ Var 2 ⊗ Var 3) (Var 6 ⊗ Var 7 ⊕ Var 4 ⊗ Var 5)
    (Lit (pos 1)) (Var 0 ⊗ Var 1 ⊖ Neg (Var 2) ⊗ Var 3) (Var 4 ⊗ Var 5 ⊖ Neg (Var 6) ⊗ Var 7) refl e

meeting_of_tie : (e : Seg) (p q : Point) (m n h l : ℕ) → IsTied e p q (neg_ℤ (pos n)) (pos m) (neg_ℤ (pos h)) (pos l) → 1 ≤ m + n → (r : Point) × IsMeeting e p q m n r
meeting_of_tie e p q m n h l t w =
    meeting_of_sums e p q m n h l w
    (unsigned (pos m) p.x (pos n) q.x (pos l) e.hi.x (pos h) e.lo.x t.x)
    (unsigned (pos m) p.y (pos n) q.y (pos l) e.hi.y (pos h) e.lo.y t.y)
    (let depth = t.d in
    let ends : (pos m *ℤ pos p.d) -ℤ (neg_ℤ (pos n) *ℤ pos q.d) ≡ (pos l *ℤ pos 1) -ℤ (neg_ℤ (pos h) *ℤ pos 1) =
    omega (arith, lin, mul_one (pos l), mul_one (neg_ℤ (pos h))) in
    pos_injective (unsigned (pos m) (pos p.d) (pos n) (pos q.d) (pos l) (pos 1) (pos h) (pos 1) ends ∙ omega (arith, lin, mul_one (pos h), mul_one (pos l))))

meeting_of_sizes : (e : Seg) (p q : Point) (at_p at_q at_hi at_lo : ℤ) (m n h l : ℕ) → IsTied e p q at_p at_q at_hi at_lo
    → at_p ≡ neg_ℤ (pos n) → at_q ≡ pos m → at_hi ≡ neg_ℤ (pos h) → at_lo ≡ pos l → 1 ≤ m + n → (r : Point) × IsMeeting e p q m n r
meeting_of_sizes e p q at_p at_q at_hi at_lo m n h l t en em eh el w = meeting_of_tie e p q m n h l (rw (en, em, eh, el) at t) w

-- sides that are tied and opposite, those of p and q not both 0: the sizes of the sides are the weights
pub meeting : (e : Seg) (p q : Point) (at_p at_q at_hi at_lo : ℤ) (m n : ℕ) → IsTied e p q at_p at_q at_hi at_lo → AreCrossed at_p at_q at_hi at_lo
    → at_p ≡ neg_ℤ (pos n) → at_q ≡ pos m → 1 ≤ m + n → (r : Point) × IsMeeting e p q m n r
meeting e p q at_p at_q at_hi at_lo m n t opposite en em w =
    let (l, el) = natural at_lo opposite.lo in
    let (h, eh) = natural (neg_ℤ at_hi) (let o = opposite.hi in omega (arith, lin)) in
    meeting_of_sizes e p q at_p at_q at_hi at_lo m n h l t en em (let o = eh in omega (arith, lin)) el w

-- no point of the closed segment from p to q is on the edge
pub record Misses (e : Seg) (p q : Point) : Type 0 where
  pub none : (r : Point) → IsBetween r p q → IsOn e r → ⊥

-- tied sides that are opposite and not all 0: those of p and q are not both 0
pub gap_of_all : (at_p at_q at_hi at_lo pd qd : ℤ) → (at_q *ℤ pd) -ℤ (at_p *ℤ qd) ≡ at_lo -ℤ at_hi → at_p ≤ℤ pos 0 → pos 0 ≤ℤ at_q
    → pos 0 <ℤ ((at_q -ℤ at_p) +ℤ (at_lo -ℤ at_hi)) → pos 0 <ℤ (at_q -ℤ at_p)
gap_of_all at_p at_q at_hi at_lo pd qd d hp hq w =
    elim (lt_or_ge (pos 0) (at_q -ℤ at_p)) [
      | inl positive ↦ positive
      | inr none ↦ (
          let p_zero : at_p ≡ pos 0 = omega (arith, lin) in
          let q_zero : at_q ≡ pos 0 = omega (arith, lin) in
          let p_part = ap (λ x. x *ℤ qd) p_zero ∙ zero_mul qd in
          let q_part = ap (λ x. x *ℤ pd) q_zero ∙ zero_mul pd in
          omega (arith, lin)
          )
    ]

pub weight_of_gap : (m n : ℕ) (at_p at_q : ℤ) → at_p ≡ neg_ℤ (pos n) → at_q ≡ pos m → pos 0 <ℤ (at_q -ℤ at_p) → 1 ≤ m + n
weight_of_gap m n at_p at_q en em w = omega (arith, lin)

-- so a way that misses an edge has no such sides
pub no_opposite_sides : (e : Seg) (p q : Point) (at_p at_q at_hi at_lo : ℤ) → IsTied e p q at_p at_q at_hi at_lo → Misses e p q
    → AreCrossed at_p at_q at_hi at_lo → pos 0 <ℤ ((at_q -ℤ at_p) +ℤ (at_lo -ℤ at_hi)) → ⊥
no_opposite_sides e p q at_p at_q at_hi at_lo t misses opposite w =
    let gap = gap_of_all at_p at_q at_hi at_lo (pos p.d) (pos q.d) t.d opposite.p opposite.q w in
    let (m, em) = natural at_q opposite.q in
    let (n, en) = natural (neg_ℤ at_p) (let o = opposite.p in omega (arith, lin)) in
    let en' : at_p ≡ neg_ℤ (pos n) = (let o = en in omega (arith, lin)) in
    let (r, at) = meeting e p q at_p at_q at_hi at_lo m n t opposite en' em (weight_of_gap m n at_p at_q en' em gap) in
    misses.none r at.between at.on_segment
