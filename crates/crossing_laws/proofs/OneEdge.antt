-- What changes at one edge along a way that misses it: over the far end and passed at hi, as over the near end and passed at lo.
use mathlib.Core.List.{[], ◌∷◌}
use Rattle.std.proofs.Common.{◌≡◌, refl, sym, ◌∙◌, ap, ◌^◌, Bool, true, false, not, ◌&&◌, ℤ, pos, ◌+ℤ◌, ◌-ℤ◌, ◌*ℤ◌, ◌≤ℤ◌, ◌<ℤ◌, int_lt, inl, inr, arith}
use Rattle.cov_types.specs.declared.coord.Coord.{Coord}
use Rattle.cov_types.specs.declared.seg.Seg.{Seg}
use Rattle.integer_laws.proofs.Ring.{lin, by_two, Var, Lit, ◌⊕◌, ◌⊖◌, ◌⊗◌, mul_one, mul_zero, mul_comm}
use Rattle.integer_laws.proofs.Compare.{int_tests, le_of_lt, le_cases}
use Rattle.integer_laws.proofs.Order.{lt_mul, fraction_le_lt_trans, fraction_lt_le_trans}
use Rattle.integer_laws.proofs.Sign.{nonneg_times_nonneg, nonneg_times_nonpos, nonpos_factor, nonpos_cofactor}
use Rattle.plane.specs.Point.{Point, at_coord}
use Rattle.plane.specs.Ray.{sweep, sweep_below, is_over, Rises}
use Rattle.plane.specs.Segment.{side}
use Rattle.plane.proofs.Points.{d_positive}
use Rattle.crossing_laws.specs.Meeting.{side_from}
use Rattle.crossing_laws.proofs.Sides.{IsTied, Misses, sides_tie, tied_negated, no_opposite_sides}
use Rattle.crossing_laws.proofs.Windows.{AreRises, rises, both_within, out_past_hi, in_over_lo, past_both}
use Rattle.crossing_laws.proofs.Tests.{IsSamePair, AreWindows, windows_pair, same_tests}

-- the way from p to q passes v: its sweep value lies past p's and not past q's, and v is on the left
abbrev pub passes : Point → Point → Coord → Bool
passes p q v = sweep_below p (at_coord v) && not (sweep_below q (at_coord v)) && int_lt (pos 0) (side_from p q v)

-- ---- the rises

abbrev way_rise : Point → Point → ℤ
way_rise p q = (sweep q *ℤ pos p.d) -ℤ (sweep p *ℤ pos q.d)

abbrev lo_rise : Seg → Point → ℤ
lo_rise e p = sweep p -ℤ (sweep (at_coord e.lo) *ℤ pos p.d)

abbrev hi_rise : Seg → Point → ℤ
hi_rise e p = (sweep (at_coord e.hi) *ℤ pos p.d) -ℤ sweep p

abbrev edge_rise : Seg → ℤ
edge_rise e = sweep (at_coord e.hi) -ℤ sweep (at_coord e.lo)

tied_sweep : (w at_p at_q at_hi at_lo px py qx qy lx ly hx hy : ℤ)
    → (at_q *ℤ px) -ℤ (at_p *ℤ qx) ≡ (at_lo *ℤ hx) -ℤ (at_hi *ℤ lx)
    → (at_q *ℤ py) -ℤ (at_p *ℤ qy) ≡ (at_lo *ℤ hy) -ℤ (at_hi *ℤ ly)
    → (at_q *ℤ ((w *ℤ px) +ℤ py)) -ℤ (at_p *ℤ ((w *ℤ qx) +ℤ qy)) ≡ (at_lo *ℤ ((w *ℤ hx) +ℤ hy)) -ℤ (at_hi *ℤ ((w *ℤ lx) +ℤ ly))
tied_sweep w at_p at_q at_hi at_lo px py qx qy lx ly hx hy h k =
    by_two (w ∷ at_p ∷ at_q ∷ at_hi ∷ at_lo ∷ px ∷ py ∷ qx ∷ qy ∷ lx ∷ ly ∷ hx ∷ hy ∷ [])
    (Var 2 ⊗ (Var 0 ⊗ Var 5 ⊕ Var 6) ⊖ Var 1 ⊗ (Var 0 ⊗ Var 7 ⊕ Var 8)) (Var 4 ⊗ (Var 0 ⊗ Var 11 ⊕ Var 12) ⊖ Var 3 ⊗ (Var 0 ⊗ Var 9 ⊕ Var 10))
    (Var 0) (Var 2 ⊗ Var 5 ⊖ Var 1 ⊗ Var 7) (Var 4 ⊗ Var 11 ⊖ Var 3 ⊗ Var 9)
    (Lit (pos 1)) (Var 2 ⊗ Var 6 ⊖ Var 1 ⊗ Var 8) (Var 4 ⊗ Var 12 ⊖ Var 3 ⊗ Var 10) refl h k

rises_of : (e : Seg) (p q : Point) (at_p at_q at_hi at_lo : ℤ) → IsTied e p q at_p at_q at_hi at_lo
    → AreRises at_p at_q at_hi at_lo (way_rise p q) (lo_rise e p) (hi_rise e p) (lo_rise e q) (hi_rise e q) (edge_rise e)
unfolding sweep
rises_of e p q at_p at_q at_hi at_lo t =
    rises at_p at_q at_hi at_lo (sweep p) (sweep q) (sweep (at_coord e.lo)) (sweep (at_coord e.hi)) (pos p.d) (pos q.d)
    (tied_sweep (pos (2 ^ 30)) at_p at_q at_hi at_lo p.x p.y q.x q.y e.lo.x e.lo.y e.hi.x e.hi.y t.x t.y) t.d

-- ---- a way that misses the edge: in no window are two sides not of one sign

no_within : (e : Seg) (p q : Point) (at_p at_q at_hi at_lo : ℤ) → IsTied e p q at_p at_q at_hi at_lo → Misses e p q → Rises e
    → pos 0 ≤ℤ lo_rise e p → pos 0 ≤ℤ hi_rise e p → pos 0 ≤ℤ lo_rise e q → pos 0 ≤ℤ hi_rise e q
    → at_p ≤ℤ pos 0 → pos 0 ≤ℤ at_q → pos 0 <ℤ (at_q -ℤ at_p) → ⊥
no_within e p q at_p at_q at_hi at_lo t misses up lp ph lq qh hp hq w =
    let o = both_within at_p at_q at_hi at_lo (way_rise p q) (lo_rise e p) (hi_rise e p) (lo_rise e q) (hi_rise e q) (edge_rise e)
    (rises_of e p q at_p at_q at_hi at_lo t) (omega (arith, lin)) lp ph lq qh hp hq in
    no_opposite_sides e p q at_p at_q at_hi at_lo t misses o (omega (arith, lin, o.hi, o.lo))

no_past_hi : (e : Seg) (p q : Point) (at_p at_q at_hi at_lo : ℤ) → IsTied e p q at_p at_q at_hi at_lo → Misses e p q → Rises e
    → pos 0 ≤ℤ way_rise p q → pos 0 ≤ℤ lo_rise e p → pos 0 <ℤ hi_rise e p → hi_rise e q ≤ℤ pos 0
    → at_p ≤ℤ pos 0 → at_hi ≤ℤ pos 0 → (at_p +ℤ at_hi) <ℤ pos 0 → ⊥
no_past_hi e p q at_p at_q at_hi at_lo t misses up pq lp ph qh hp hhi w =
    let o = out_past_hi at_p at_q at_hi at_lo (way_rise p q) (lo_rise e p) (hi_rise e p) (lo_rise e q) (hi_rise e q) (edge_rise e)
    (rises_of e p q at_p at_q at_hi at_lo t) (omega (arith, lin)) pq lp ph qh hp hhi in
    no_opposite_sides e p q at_p at_q at_hi at_lo t misses o (omega (arith, lin, o.q, o.lo))

-- q at the sweep value of lo
none_at_lo : (at_p at_q at_hi at_lo pq lp ph lq qh lh : ℤ) → AreRises at_p at_q at_hi at_lo pq lp ph lq qh lh
    → pos 0 <ℤ lh → lp <ℤ pos 0 → lq ≡ pos 0 → pos 0 ≤ℤ at_q → pos 0 ≤ℤ at_lo → pos 0 <ℤ (at_q +ℤ at_lo) → ⊥
none_at_lo at_p at_q at_hi at_lo pq lp ph lq qh lh r rise_lh fall_lp same hq hlo w =
    let p_lq = ap (λ x. at_p *ℤ x) same ∙ mul_zero at_p in
    let lo_lh = nonneg_times_nonneg {x = at_lo} {y = lh} hlo (le_of_lt rise_lh) in
    let q_lp = nonneg_times_nonpos {x = at_q} {y = lp} hq (le_of_lt fall_lp) in
    let lo_zero = nonpos_factor lh at_lo rise_lh (omega (arith, lin, mul_comm lh at_lo, r.from_lo)) in
    let q_zero = nonpos_cofactor lp at_q fall_lp (omega (arith, lin, mul_comm lp at_q, r.from_lo)) in
    omega (arith, lin)

no_over_lo : (e : Seg) (p q : Point) (at_p at_q at_hi at_lo : ℤ) → IsTied e p q at_p at_q at_hi at_lo → Misses e p q → Rises e
    → pos 0 ≤ℤ hi_rise e p → lo_rise e p <ℤ pos 0 → pos 0 ≤ℤ lo_rise e q → pos 0 ≤ℤ hi_rise e q
    → pos 0 ≤ℤ at_q → pos 0 ≤ℤ at_lo → pos 0 <ℤ (at_q +ℤ at_lo) → ⊥
no_over_lo e p q at_p at_q at_hi at_lo t misses up ph lp lq qh hq hlo w =
    let r = rises_of e p q at_p at_q at_hi at_lo t in
    let rise : pos 0 <ℤ edge_rise e = omega (arith, lin) in
    elim (le_cases lq) [
      | inl past ↦ (
          let o = in_over_lo at_p at_q at_hi at_lo (way_rise p q) (lo_rise e p) (hi_rise e p) (lo_rise e q) (hi_rise e q) (edge_rise e) r rise ph (le_of_lt lp) past qh hq hlo in
          no_opposite_sides e p q at_p at_q at_hi at_lo t misses o (omega (arith, lin, o.p, o.hi))
          )
      | inr at ↦ none_at_lo at_p at_q at_hi at_lo (way_rise p q) (lo_rise e p) (hi_rise e p) (lo_rise e q) (hi_rise e q) (edge_rise e) r rise lp (sym at) hq hlo w
    ]

no_past_both : (e : Seg) (p q : Point) (at_p at_q at_hi at_lo : ℤ) → IsTied e p q at_p at_q at_hi at_lo → Misses e p q
    → pos 0 <ℤ way_rise p q → lo_rise e p ≤ℤ pos 0 → pos 0 ≤ℤ hi_rise e p → pos 0 ≤ℤ lo_rise e q → hi_rise e q ≤ℤ pos 0
    → at_hi ≤ℤ pos 0 → pos 0 ≤ℤ at_lo → pos 0 <ℤ (at_lo -ℤ at_hi) → ⊥
no_past_both e p q at_p at_q at_hi at_lo t misses pq lp ph lq qh hhi hlo w =
    let o = past_both at_p at_q at_hi at_lo (way_rise p q) (lo_rise e p) (hi_rise e p) (lo_rise e q) (hi_rise e q) (edge_rise e)
    (rises_of e p q at_p at_q at_hi at_lo t) pq lp ph lq qh hhi hlo in
    no_opposite_sides e p q at_p at_q at_hi at_lo t misses o (omega (arith, lin, o.p, o.q))

-- ---- so two tests agree in each window

within_test : (e : Seg) (p q : Point) → Misses e p q → Rises e
    → pos 0 ≤ℤ lo_rise e p → pos 0 ≤ℤ hi_rise e p → pos 0 ≤ℤ lo_rise e q → pos 0 ≤ℤ hi_rise e q
    → int_lt (side e q) (pos 0) ≡ int_lt (side e p) (pos 0)
within_test e p q misses up lp ph lq qh =
    let t = sides_tie e p q in
    let n = tied_negated e p q (side e p) (side e q) (side_from p q e.hi) (side_from p q e.lo) t in
    same_tests (int_lt (side e q) (pos 0)) (int_lt (side e p) (pos 0))
    (λ h k. no_within e p q _ _ _ _ n misses up lp ph lq qh (omega (arith, lin, int_tests)) (omega (arith, lin, int_tests)) (omega (arith, lin, int_tests)))
    (λ h k. no_within e p q _ _ _ _ t misses up lp ph lq qh (omega (arith, lin, int_tests)) (omega (arith, lin, int_tests)) (omega (arith, lin, int_tests)))

past_hi_test : (e : Seg) (p q : Point) → Misses e p q → Rises e
    → pos 0 ≤ℤ way_rise p q → pos 0 ≤ℤ lo_rise e p → pos 0 <ℤ hi_rise e p → hi_rise e q ≤ℤ pos 0
    → int_lt (pos 0) (side_from p q e.hi) ≡ int_lt (side e p) (pos 0)
past_hi_test e p q misses up pq lp ph qh =
    let t = sides_tie e p q in
    let n = tied_negated e p q (side e p) (side e q) (side_from p q e.hi) (side_from p q e.lo) t in
    same_tests (int_lt (pos 0) (side_from p q e.hi)) (int_lt (side e p) (pos 0))
    (λ h k. no_past_hi e p q _ _ _ _ n misses up pq lp ph qh (omega (arith, lin, int_tests)) (omega (arith, lin, int_tests)) (omega (arith, lin, int_tests)))
    (λ h k. no_past_hi e p q _ _ _ _ t misses up pq lp ph qh (omega (arith, lin, int_tests)) (omega (arith, lin, int_tests)) (omega (arith, lin, int_tests)))

over_lo_test : (e : Seg) (p q : Point) → Misses e p q → Rises e
    → pos 0 ≤ℤ hi_rise e p → lo_rise e p <ℤ pos 0 → pos 0 ≤ℤ lo_rise e q → pos 0 ≤ℤ hi_rise e q
    → int_lt (side e q) (pos 0) ≡ int_lt (pos 0) (side_from p q e.lo)
over_lo_test e p q misses up ph lp lq qh =
    let t = sides_tie e p q in
    let n = tied_negated e p q (side e p) (side e q) (side_from p q e.hi) (side_from p q e.lo) t in
    same_tests (int_lt (side e q) (pos 0)) (int_lt (pos 0) (side_from p q e.lo))
    (λ h k. no_over_lo e p q _ _ _ _ n misses up ph lp lq qh (omega (arith, lin, int_tests)) (omega (arith, lin, int_tests)) (omega (arith, lin, int_tests)))
    (λ h k. no_over_lo e p q _ _ _ _ t misses up ph lp lq qh (omega (arith, lin, int_tests)) (omega (arith, lin, int_tests)) (omega (arith, lin, int_tests)))

past_both_test : (e : Seg) (p q : Point) → Misses e p q
    → pos 0 <ℤ way_rise p q → lo_rise e p ≤ℤ pos 0 → pos 0 ≤ℤ hi_rise e p → pos 0 ≤ℤ lo_rise e q → hi_rise e q ≤ℤ pos 0
    → int_lt (pos 0) (side_from p q e.hi) ≡ int_lt (pos 0) (side_from p q e.lo)
past_both_test e p q misses pq lp ph lq qh =
    let t = sides_tie e p q in
    let n = tied_negated e p q (side e p) (side e q) (side_from p q e.hi) (side_from p q e.lo) t in
    same_tests (int_lt (pos 0) (side_from p q e.hi)) (int_lt (pos 0) (side_from p q e.lo))
    (λ h k. no_past_both e p q _ _ _ _ n misses pq lp ph lq qh (omega (arith, lin, int_tests)) (omega (arith, lin, int_tests)) (omega (arith, lin, int_tests)))
    (λ h k. no_past_both e p q _ _ _ _ t misses pq lp ph lq qh (omega (arith, lin, int_tests)) (omega (arith, lin, int_tests)) (omega (arith, lin, int_tests)))

-- ---- the tests of sweep values

before_is : (p : Point) (v : Coord) → sweep_below p (at_coord v) ≡ true → (sweep p *ℤ pos 1) <ℤ (sweep (at_coord v) *ℤ pos p.d)
before_is p v h = omega (arith, lin, int_tests)

not_before_is : (p : Point) (v : Coord) → sweep_below p (at_coord v) ≡ false → (sweep (at_coord v) *ℤ pos p.d) ≤ℤ (sweep p *ℤ pos 1)
not_before_is p v h = omega (arith, lin, int_tests)

-- p before lo is before hi
before_hi : (e : Seg) (p : Point) → Rises e → sweep_below p (at_coord e.lo) ≡ true → sweep_below p (at_coord e.hi) ≡ true
before_hi e p up h =
    let near = before_is p e.lo h in
    let more = lt_mul (pos p.d) (d_positive p) up in
    omega (arith, lin, int_tests)

-- p, which is not past q, is before each v that q is before
before_follows : (p q : Point) (v : Coord) → pos 0 ≤ℤ way_rise p q → sweep_below q (at_coord v) ≡ true → sweep_below p (at_coord v) ≡ true
before_follows p q v pq h =
    let near = fraction_le_lt_trans (sweep p) (pos p.d) (sweep q) (pos q.d) (sweep (at_coord v)) (pos 1)
    (d_positive p) (d_positive q) (omega (arith, lin)) (omega (arith, lin)) (before_is q v h) in
    omega (arith, lin, int_tests)

-- p before v and q not before it: the way rises
way_up : (p q : Point) (v : Coord) → sweep_below p (at_coord v) ≡ true → sweep_below q (at_coord v) ≡ false → pos 0 <ℤ way_rise p q
way_up p q v h k =
    let near = fraction_lt_le_trans (sweep p) (pos p.d) (sweep (at_coord v)) (pos 1) (sweep q) (pos q.d)
    (d_positive p) (omega (arith, lin)) (d_positive q) (before_is p v h) (not_before_is q v k) in
    omega (arith, lin)

not_past_lo : (e : Seg) (p : Point) → sweep_below p (at_coord e.lo) ≡ true → lo_rise e p <ℤ pos 0
not_past_lo e p h = omega (arith, lin, before_is p e.lo h, mul_one (sweep p))

past_lo : (e : Seg) (p : Point) → sweep_below p (at_coord e.lo) ≡ false → pos 0 ≤ℤ lo_rise e p
past_lo e p h = omega (arith, lin, not_before_is p e.lo h, mul_one (sweep p))

not_past_hi : (e : Seg) (p : Point) → sweep_below p (at_coord e.hi) ≡ true → pos 0 <ℤ hi_rise e p
not_past_hi e p h = omega (arith, lin, before_is p e.hi h, mul_one (sweep p))

past_hi : (e : Seg) (p : Point) → sweep_below p (at_coord e.hi) ≡ false → hi_rise e p ≤ℤ pos 0
past_hi e p h = omega (arith, lin, not_before_is p e.hi h, mul_one (sweep p))

-- ---- the identity of one edge

windows : (e : Seg) (p q : Point) → Misses e p q → Rises e → pos 0 ≤ℤ way_rise p q
    → AreWindows (sweep_below p (at_coord e.lo)) (sweep_below p (at_coord e.hi)) (sweep_below q (at_coord e.lo)) (sweep_below q (at_coord e.hi))
    (int_lt (side e p) (pos 0)) (int_lt (side e q) (pos 0)) (int_lt (pos 0) (side_from p q e.hi)) (int_lt (pos 0) (side_from p q e.lo))
windows e p q misses up pq = record {
  p_order = before_hi e p up;
  q_order = before_hi e q up;
  lo_order = before_follows p q e.lo pq;
  hi_order = before_follows p q e.hi pq;
  within = λ p_lo q_hi p_hi q_lo. within_test e p q misses up (past_lo e p p_lo) (le_of_lt (not_past_hi e p p_hi)) (past_lo e q q_lo) (le_of_lt (not_past_hi e q q_hi));
  past_hi = λ p_lo q_hi p_hi q_lo. past_hi_test e p q misses up pq (past_lo e p p_lo) (not_past_hi e p p_hi) (past_hi e q q_hi);
  over_lo = λ p_lo q_hi p_hi q_lo. over_lo_test e p q misses up (le_of_lt (not_past_hi e p p_hi)) (not_past_lo e p p_lo) (past_lo e q q_lo) (le_of_lt (not_past_hi e q q_hi));
  past_both = λ p_lo q_hi p_hi q_lo.
      past_both_test e p q misses (way_up p q e.hi p_hi q_hi) (le_of_lt (not_past_lo e p p_lo)) (le_of_lt (not_past_hi e p p_hi)) (past_lo e q q_lo) (past_hi e q q_hi);
}

-- along a way that does not fall in the sweep: over q and passed at hi, as over p and passed at lo
pub one_edge : (e : Seg) (p q : Point) → Misses e p q → Rises e → (sweep p *ℤ pos q.d) ≤ℤ (sweep q *ℤ pos p.d)
    → IsSamePair (is_over e q) (passes p q e.hi) (is_over e p) (passes p q e.lo)
one_edge e p q misses up h =
    windows_pair (sweep_below p (at_coord e.lo)) (sweep_below p (at_coord e.hi)) (sweep_below q (at_coord e.lo)) (sweep_below q (at_coord e.hi))
    (int_lt (side e p) (pos 0)) (int_lt (side e q) (pos 0)) (int_lt (pos 0) (side_from p q e.hi)) (int_lt (pos 0) (side_from p q e.lo))
    (windows e p q misses up (omega (arith, lin)))
