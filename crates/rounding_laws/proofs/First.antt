-- Which of two points a segment passes first, and which of two pixels: by their centres.
use mathlib.Core.List.{List, [], ◌∷◌}
use Rattle.std.proofs.Common.{◌≡◌, ◌⊎◌, inl, inr, refl, sym, subst, ◌^◌, ℤ, pos, ◌+ℤ◌, ◌-ℤ◌, ◌*ℤ◌, ◌<ℤ◌, ◌≤ℤ◌, ◌↔◌, arith}
use Rattle.integer_laws.proofs.Ring.{lin, by_ring, by_two, Term, Var, Lit, ◌⊕◌, ◌⊖◌, ◌⊗◌, Neg, mul_comm, add_mul, pos_times}
use Rattle.integer_laws.proofs.Compare.{le_of_lt, le_of_eq, lt_excludes_eq, lt_irrefl, lt_trans, trichotomy, lt_or_ge}
use Rattle.integer_laws.proofs.Sign.{positive_times_positive, positive_times_negative, nonneg_times_nonneg, positive_factor, positive_cofactor}
use Rattle.integer_laws.proofs.Order.{le_mul, lt_mul}
use Rattle.cov_types.specs.declared.coord.Coord.{Coord}
use Rattle.cov_types.specs.declared.seg.Seg.{Seg}
use Rattle.cov_types.proofs.Order.{cases_before, same_coords}
use Rattle.plane.specs.Point.{Point, at_coord}
use Rattle.plane.specs.Segment.{IsOn, side}
use Rattle.plane.specs.Ray.{sweep, Rises}
use Rattle.plane.specs.Snapping.{MeetsPixel, IsBefore, PassesFirst}
use Rattle.plane.proofs.Points.{d_positive, between_by}
use Rattle.plane.proofs.Sides.{side_zero-on}
use Rattle.plane.proofs.Sweeps.{sweep-on_from, sweep-same}
use Rattle.rounding_laws.specs.Formulas.{ComesFirst}
use Rattle.rounding_laws.proofs.Near.{Near, pixel-near}
use Rattle.rounding_laws.proofs.Passing.{before_sweep}

-- ---- the point with the lesser sweep value is passed first

-- over plain variables: k is 2^30; lx, ly and hx, hy the ends; p and q two points of the line
abbrev side_of : ℤ → ℤ → ℤ → ℤ → ℤ → ℤ → ℤ → ℤ
side_of lx ly hx hy px py pd = ((hx -ℤ lx) *ℤ (py -ℤ (ly *ℤ pd))) -ℤ ((hy -ℤ ly) *ℤ (px -ℤ (lx *ℤ pd)))

abbrev at : ℤ → ℤ → ℤ → ℤ
at k x y = (k *ℤ x) +ℤ y

abbrev rise : ℤ → ℤ → ℤ → ℤ → ℤ → ℤ
rise k lx ly hx hy = at k hx hy -ℤ at k lx ly

-- how far q is past p, times the denominators
abbrev past : ℤ → ℤ → ℤ → ℤ → ℤ → ℤ → ℤ → ℤ
past k px py pd qx qy qd = (at k qx qy *ℤ pd) -ℤ (at k px py *ℤ qd)

abbrev side_term : Term → Term → Term → Term
side_term x y d = (Var 3 ⊖ Var 1) ⊗ (y ⊖ Var 2 ⊗ d) ⊖ (Var 4 ⊖ Var 2) ⊗ (x ⊖ Var 1 ⊗ d)

abbrev at_term : Term → Term → Term
at_term x y = Var 0 ⊗ x ⊕ y

abbrev rise_term : Term
rise_term = at_term (Var 3) (Var 4) ⊖ at_term (Var 1) (Var 2)

abbrev past_term : Term
past_term = at_term (Var 8) (Var 9) ⊗ Var 7 ⊖ at_term (Var 5) (Var 6) ⊗ Var 10

abbrev from_lo_term : Term → Term → Term → Term
from_lo_term x y d = at_term x y ⊖ at_term (Var 1) (Var 2) ⊗ d

module _ (k lx ly hx hy px py pd qx qy qd : ℤ) (on_p : side_of lx ly hx hy px py pd ≡ pos 0) (on_q : side_of lx ly hx hy qx qy qd ≡ pos 0) where
  abbrev values : List ℤ
  values = k ∷ lx ∷ ly ∷ hx ∷ hy ∷ px ∷ py ∷ pd ∷ qx ∷ qy ∷ qd ∷ []

  -- the gap in x, and that in y, go with the gap of the sweep values
  gap_x : rise k lx ly hx hy *ℤ ((qx *ℤ pd) -ℤ (px *ℤ qd)) ≡ past k px py pd qx qy qd *ℤ (hx -ℤ lx)
  gap_x =
      by_two values (rise_term ⊗ (Var 8 ⊗ Var 7 ⊖ Var 5 ⊗ Var 10)) (past_term ⊗ (Var 3 ⊖ Var 1))
      (Var 10) (side_term (Var 5) (Var 6) (Var 7)) (Lit (pos 0)) (Neg (Var 7)) (side_term (Var 8) (Var 9) (Var 10)) (Lit (pos 0)) refl on_p on_q

  gap_y : rise k lx ly hx hy *ℤ ((qy *ℤ pd) -ℤ (py *ℤ qd)) ≡ past k px py pd qx qy qd *ℤ (hy -ℤ ly)
  gap_y =
      by_two values (rise_term ⊗ (Var 9 ⊗ Var 7 ⊖ Var 6 ⊗ Var 10)) (past_term ⊗ (Var 4 ⊖ Var 2))
      (Neg (Var 0 ⊗ Var 10)) (side_term (Var 5) (Var 6) (Var 7)) (Lit (pos 0)) (Var 0 ⊗ Var 7) (side_term (Var 8) (Var 9) (Var 10)) (Lit (pos 0)) refl on_p on_q

  -- p as the mean of lo and q, with the gaps of the sweep values as weights, times the rise
  from_lo_x : (rise k lx ly hx hy *ℤ (at k qx qy -ℤ (at k lx ly *ℤ qd))) *ℤ px
      ≡ ((rise k lx ly hx hy *ℤ past k px py pd qx qy qd) *ℤ lx) +ℤ ((rise k lx ly hx hy *ℤ (at k px py -ℤ (at k lx ly *ℤ pd))) *ℤ qx)
  from_lo_x =
      by_two values ((rise_term ⊗ from_lo_term (Var 8) (Var 9) (Var 10)) ⊗ Var 5)
      ((rise_term ⊗ past_term) ⊗ Var 1 ⊕ (rise_term ⊗ from_lo_term (Var 5) (Var 6) (Var 7)) ⊗ Var 8)
      (Neg (from_lo_term (Var 8) (Var 9) (Var 10))) (side_term (Var 5) (Var 6) (Var 7)) (Lit (pos 0))
      (from_lo_term (Var 5) (Var 6) (Var 7)) (side_term (Var 8) (Var 9) (Var 10)) (Lit (pos 0)) refl on_p on_q

  from_lo_y : (rise k lx ly hx hy *ℤ (at k qx qy -ℤ (at k lx ly *ℤ qd))) *ℤ py
      ≡ ((rise k lx ly hx hy *ℤ past k px py pd qx qy qd) *ℤ ly) +ℤ ((rise k lx ly hx hy *ℤ (at k px py -ℤ (at k lx ly *ℤ pd))) *ℤ qy)
  from_lo_y =
      by_two values ((rise_term ⊗ from_lo_term (Var 8) (Var 9) (Var 10)) ⊗ Var 6)
      ((rise_term ⊗ past_term) ⊗ Var 2 ⊕ (rise_term ⊗ from_lo_term (Var 5) (Var 6) (Var 7)) ⊗ Var 9)
      (Var 0 ⊗ from_lo_term (Var 8) (Var 9) (Var 10)) (side_term (Var 5) (Var 6) (Var 7)) (Lit (pos 0))
      (Neg (Var 0 ⊗ from_lo_term (Var 5) (Var 6) (Var 7))) (side_term (Var 8) (Var 9) (Var 10)) (Lit (pos 0)) refl on_p on_q

from_lo_d : (w t u l pd qd : ℤ) → (w *ℤ (u -ℤ (l *ℤ qd))) *ℤ pd ≡ ((w *ℤ ((u *ℤ pd) -ℤ (t *ℤ qd))) *ℤ pos 1) +ℤ ((w *ℤ (t -ℤ (l *ℤ pd))) *ℤ qd)
from_lo_d w t u l pd qd =
    by_ring (w ∷ t ∷ u ∷ l ∷ pd ∷ qd ∷ []) ((Var 0 ⊗ (Var 2 ⊖ Var 3 ⊗ Var 5)) ⊗ Var 4)
    ((Var 0 ⊗ (Var 2 ⊗ Var 4 ⊖ Var 1 ⊗ Var 5)) ⊗ Lit (pos 1) ⊕ (Var 0 ⊗ (Var 1 ⊖ Var 3 ⊗ Var 4)) ⊗ Var 5) refl

module _ (s : Seg) (p q : Point) (on_p : side s p ≡ pos 0) (on_q : side s q ≡ pos 0) where
  -- the same for a segment
  sweep_gap_x : (sweep (at_coord s.hi) -ℤ sweep (at_coord s.lo)) *ℤ ((q.x *ℤ pos p.d) -ℤ (p.x *ℤ pos q.d)) ≡ ((sweep q *ℤ pos p.d) -ℤ (sweep p *ℤ pos q.d)) *ℤ (s.hi.x -ℤ s.lo.x)
  unfolding sweep side
  sweep_gap_x = gap_x (pos (2 ^ 30)) s.lo.x s.lo.y s.hi.x s.hi.y p.x p.y (pos p.d) q.x q.y (pos q.d) on_p on_q

  sweep_gap_y : (sweep (at_coord s.hi) -ℤ sweep (at_coord s.lo)) *ℤ ((q.y *ℤ pos p.d) -ℤ (p.y *ℤ pos q.d)) ≡ ((sweep q *ℤ pos p.d) -ℤ (sweep p *ℤ pos q.d)) *ℤ (s.hi.y -ℤ s.lo.y)
  unfolding sweep side
  sweep_gap_y = gap_y (pos (2 ^ 30)) s.lo.x s.lo.y s.hi.x s.hi.y p.x p.y (pos p.d) q.x q.y (pos q.d) on_p on_q

pub sweep_before : (s : Seg) (p q : Point) → Rises s → IsOn s p → IsOn s q → (sweep p *ℤ pos q.d) <ℤ (sweep q *ℤ pos p.d) → IsBefore s p q
unfolding sweep side
sweep_before s p q rises on_p on_q l =
    let k = pos (2 ^ 30) in
    let height = rise k s.lo.x s.lo.y s.hi.x s.hi.y in
    let lo = at k s.lo.x s.lo.y in
    let line_p = side_zero-on s p on_p in
    let line_q = side_zero-on s q on_q in
    let from = sweep-on_from s p (le_of_lt rises) on_p in
    let first = positive_times_positive {x = height} {y = past k p.x p.y (pos p.d) q.x q.y (pos q.d)} (omega (arith, lin)) (omega (arith, lin)) in
    let second = nonneg_times_nonneg {x = height} {y = at k p.x p.y -ℤ (lo *ℤ pos p.d)} (omega (arith, lin)) (omega (arith, lin)) in (
      between_by p (at_coord s.lo) q (height *ℤ (at k q.x q.y -ℤ (lo *ℤ pos q.d))) (height *ℤ past k p.x p.y (pos p.d) q.x q.y (pos q.d)) (height *ℤ (at k p.x p.y -ℤ (lo *ℤ pos p.d)))
          (le_of_lt first) second (omega (arith, lin))
          (from_lo_x k s.lo.x s.lo.y s.hi.x s.hi.y p.x p.y (pos p.d) q.x q.y (pos q.d) line_p line_q)
          (from_lo_y k s.lo.x s.lo.y s.hi.x s.hi.y p.x p.y (pos p.d) q.x q.y (pos q.d) line_p line_q)
          (from_lo_d height (at k p.x p.y) (at k q.x q.y) lo (pos p.d) (pos q.d)),
      λ same. lt_excludes_eq l (sweep-same p q same),
    )

-- over plain variables: the gap of the sweep values is positive where the gap of a coordinate goes with the segment
gap_positive : (height gap width step : ℤ) → pos 0 <ℤ height → height *ℤ gap ≡ step *ℤ width → pos 0 <ℤ gap → pos 0 ≤ℤ width → pos 0 <ℤ step
gap_positive height gap width step h e g w =
    let product = positive_times_positive h g in
    positive_factor width step w (omega (arith, lin, mul_comm width step))

gap_negative : (height gap width step : ℤ) → pos 0 <ℤ height → height *ℤ gap ≡ step *ℤ width → gap <ℤ pos 0 → width ≤ℤ pos 0 → pos 0 <ℤ step
gap_negative height gap width step h e g w =
    let product = positive_times_negative h g in
    positive_cofactor width step w (omega (arith, lin, mul_comm width step))

module _ (s : Seg) (p q : Point) (rises : Rises s) (on_p : IsOn s p) (on_q : IsOn s q) where
  abbrev height : ℤ
  height = sweep (at_coord s.hi) -ℤ sweep (at_coord s.lo)

  abbrev step : ℤ
  step = (sweep q *ℤ pos p.d) -ℤ (sweep p *ℤ pos q.d)

  first_by_step : pos 0 <ℤ step → IsBefore s p q
  first_by_step l = sweep_before s p q rises on_p on_q (omega (arith, lin))

  -- on a segment that goes right, the point further left is passed first
  pub first_by_x : s.lo.x ≤ℤ s.hi.x → (p.x *ℤ pos q.d) <ℤ (q.x *ℤ pos p.d) → IsBefore s p q
  first_by_x right l =
      first_by_step (gap_positive height ((q.x *ℤ pos p.d) -ℤ (p.x *ℤ pos q.d)) (s.hi.x -ℤ s.lo.x) step (omega (arith, lin))
      (sweep_gap_x s p q (side_zero-on s p on_p) (side_zero-on s q on_q)) (omega (arith, lin)) (omega (arith, lin)))

  -- on one that does not go down, the lower one, and on one that goes down, the upper one
  pub first_by_y : s.lo.y ≤ℤ s.hi.y → (p.y *ℤ pos q.d) <ℤ (q.y *ℤ pos p.d) → IsBefore s p q
  first_by_y up l =
      first_by_step (gap_positive height ((q.y *ℤ pos p.d) -ℤ (p.y *ℤ pos q.d)) (s.hi.y -ℤ s.lo.y) step (omega (arith, lin))
      (sweep_gap_y s p q (side_zero-on s p on_p) (side_zero-on s q on_q)) (omega (arith, lin)) (omega (arith, lin)))

  pub first_by_y_down : s.hi.y ≤ℤ s.lo.y → (q.y *ℤ pos p.d) <ℤ (p.y *ℤ pos q.d) → IsBefore s p q
  first_by_y_down down l =
      first_by_step (gap_negative height ((q.y *ℤ pos p.d) -ℤ (p.y *ℤ pos q.d)) (s.hi.y -ℤ s.lo.y) step (omega (arith, lin))
      (sweep_gap_y s p q (side_zero-on s p on_p) (side_zero-on s q on_q)) (omega (arith, lin)) (omega (arith, lin)))

-- ---- pixels

-- fractions that round to a lesser number are less
near_less : (a x d b y e : ℤ) → pos 0 <ℤ d → pos 0 <ℤ e → Near (a *ℤ d) x d → Near (b *ℤ e) y e → a <ℤ b → (x *ℤ e) <ℤ (y *ℤ d)
near_less a x d b y e hd he h k l =
    let top = lt_mul e he h.high in
    let floor = le_mul d (le_of_lt hd) k.low in
    let gap = nonneg_times_nonneg {x = (b -ℤ a) -ℤ pos 1} {y = d *ℤ e} (omega (arith, lin)) (nonneg_times_nonneg (le_of_lt hd) (le_of_lt he)) in
    let split = by_ring (a ∷ d ∷ b ∷ e ∷ []) (((Var 2 ⊗ Var 3 ⊕ Var 2 ⊗ Var 3) ⊖ Var 3) ⊗ Var 1 ⊖ ((Var 0 ⊗ Var 1 ⊕ Var 0 ⊗ Var 1) ⊕ Var 1) ⊗ Var 3)
    (Lit (pos 2) ⊗ (((Var 2 ⊖ Var 0) ⊖ Lit (pos 1)) ⊗ (Var 1 ⊗ Var 3))) refl in
    omega (arith, lin, add_mul x x e, add_mul y y d, pos_times 2 (((b -ℤ a) -ℤ pos 1) *ℤ (d *ℤ e)))

-- a segment does not go left
pub goes_right : (s : Seg) → s.lo.x ≤ℤ s.hi.x
goes_right s = elim (cases_before s.lo s.hi s.ordered) [ inl l ↦ le_of_lt l | inr same ↦ le_of_eq same.0 ]

-- of two pixels the one whose centre comes first is passed first
pub passes_by_centre : (s : Seg) (a b : Coord) → Rises s → ComesFirst s a b → PassesFirst s a b
passes_by_centre s a b rises (inl l) p q on_p in_a on_q in_b =
    first_by_x s p q rises on_p on_q (goes_right s) (near_less a.x p.x (pos p.d) b.x q.x (pos q.d) (d_positive p) (d_positive q) (pixel-near p a in_a).0 (pixel-near q b in_b).0 l)
passes_by_centre s a b rises (inr (same, inl (up, l))) p q on_p in_a on_q in_b =
    first_by_y s p q rises on_p on_q up (near_less a.y p.y (pos p.d) b.y q.y (pos q.d) (d_positive p) (d_positive q) (pixel-near p a in_a).1 (pixel-near q b in_b).1 l)
passes_by_centre s a b rises (inr (same, inr (down, l))) p q on_p in_a on_q in_b =
    first_by_y_down s p q rises on_p on_q (le_of_lt down) (near_less b.y q.y (pos q.d) a.y p.y (pos p.d) (d_positive q) (d_positive p) (pixel-near q b in_b).1 (pixel-near p a in_a).1 l)

-- of two centres one comes first, or they are one
pub cases_first : (s : Seg) (a b : Coord) → ComesFirst s a b ⊎ ((a ≡ b) ⊎ ComesFirst s b a)
cases_first s a b =
    elim (trichotomy a.x b.x) [
      | inl l ↦ inl (inl l)
      | inr rest ↦ elim rest [
        | inl same ↦ elim (trichotomy a.y b.y) [
          | inl l ↦ elim (lt_or_ge s.hi.y s.lo.y) [
            | inl down ↦ inr (inr (inr (sym same, inr (down, l))))
            | inr up ↦ inl (inr (same, inl (up, l)))
          ]
          | inr rest ↦ elim rest [
            | inl level ↦ inr (inl (same_coords a b same level))
            | inr g ↦ elim (lt_or_ge s.hi.y s.lo.y) [
              | inl down ↦ inl (inr (same, inr (down, g)))
              | inr up ↦ inr (inr (inr (sym same, inl (up, g))))
            ]
          ]
        ]
        | inr g ↦ inr (inr (inl g))
      ]
    ]

-- two pixels that a segment meets are not passed one before the other both ways
pub passes_one_way : (s : Seg) (a b : Coord) → Rises s → MeetsPixel s a → MeetsPixel s b → PassesFirst s a b → PassesFirst s b a → ⊥
passes_one_way s a b rises at_a at_b before after =
    let p = at_a in
    let q = at_b in
    lt_irrefl (lt_trans
    (before_sweep s p.0 q.0 rises p.1.0 q.1.0 (before p.0 q.0 p.1.0 p.1.1 q.1.0 q.1.1))
    (before_sweep s q.0 p.0 rises q.1.0 p.1.0 (after q.0 p.0 q.1.0 q.1.1 p.1.0 p.1.1)))

-- the order in which a segment passes two pixels that it meets is that of their centres
pub passes-is : (s : Seg) (a b : Coord) → Rises s → MeetsPixel s a → MeetsPixel s b → PassesFirst s a b ↔ ComesFirst s a b
passes-is s a b rises at_a at_b = (by_centres, passes_by_centre s a b rises)
  where
    by_centres : PassesFirst s a b → ComesFirst s a b
    by_centres h =
        elim (cases_first s a b) [
          | inl first ↦ first
          | inr rest ↦ elim rest [
            | inl same ↦ absurd (passes_one_way s a b rises at_a at_b h (subst (λ (v : Coord). PassesFirst s v a) same (subst (λ (v : Coord). PassesFirst s a v) (sym same) h)))
            | inr after ↦ absurd (passes_one_way s a b rises at_a at_b h (passes_by_centre s b a rises after))
          ]
        ]
