-- Whether a grid point is below, on or above a segment along the ray, by its side.
use mathlib.Core.List.{[], ◌∷◌}
use Rattle.std.proofs.Common.{◌≡◌, refl, sym, ◌∙◌, ap, ℕ, ◌+◌, ◌≤◌, ◌^◌, ℤ, pos, ◌+ℤ◌, ◌-ℤ◌, ◌*ℤ◌, ◌<ℤ◌, ◌≤ℤ◌, ◌↔◌, subst, FitsSigned, Ordering, Less, Equal, Greater, int_cmp, arith}
use Rattle.std.proofs.lemmas.Cmp.{int_ranked}
use Rattle.std.specs.Ordering.{MatchOrdering}
use mir.Syntax.{w64}
use Rattle.integer_laws.proofs.Ring.{lin, by_one, by_two, Term, Var, Lit, ◌⊕◌, ◌⊖◌, ◌⊗◌, mul_zero, mul_one, one_mul}
use Rattle.integer_laws.proofs.Compare.{lt_irrefl, lt_trans, lt_excludes_eq}
use Rattle.integer_laws.proofs.Cast.{natural}
use Rattle.integer_laws.proofs.Sign.{positive_times_positive, positive_times_negative, positive_factor, negative_factor}
use Rattle.cov_types.specs.declared.coord.Coord.{Coord}
use Rattle.cov_types.specs.declared.seg.Seg.{Seg}
use Rattle.plane.specs.Point.{Point, at_coord}
use Rattle.plane.specs.Segment.{IsOn, side}
use Rattle.plane.specs.Ray.{sweep, Rises}
use Rattle.plane.proofs.Points.{d_positive, between_by}
use Rattle.plane.proofs.Sides.{side_zero-on, side-at_coord}
use Rattle.plane.proofs.Along.{on_from_turn}
use Rattle.grid_pred.specs.Along.{LiesBelow, LiesAbove}
use Rattle.grid_pred.proofs.Small.{read, read_is}

-- ---- over plain variables: k is 2^30; lx, ly and hx, hy are the ends, px, py a grid point, rx, ry, rd a point of the segment

abbrev side_of : ℤ → ℤ → ℤ → ℤ → ℤ → ℤ → ℤ → ℤ
side_of lx ly hx hy px py pd = ((hx -ℤ lx) *ℤ (py -ℤ (ly *ℤ pd))) -ℤ ((hy -ℤ ly) *ℤ (px -ℤ (lx *ℤ pd)))

-- of two points with one sweep value: how far one is to the right of the other is in the ratio of their sides
gap_by_sides : (k lx ly hx hy px py rx ry rd : ℤ) → ((k *ℤ rx) +ℤ ry) *ℤ pos 1 ≡ ((k *ℤ px) +ℤ py) *ℤ rd
    → (((k *ℤ hx) +ℤ hy) -ℤ ((k *ℤ lx) +ℤ ly)) *ℤ ((rx *ℤ pos 1) -ℤ (px *ℤ rd)) ≡ (rd *ℤ side_of lx ly hx hy px py (pos 1)) -ℤ (pos 1 *ℤ side_of lx ly hx hy rx ry rd)
gap_by_sides k lx ly hx hy px py rx ry rd h =
    let one = Lit (pos 1) in
    let side = λ (x y d : Term). (Var 3 ⊖ Var 1) ⊗ (y ⊖ Var 2 ⊗ d) ⊖ (Var 4 ⊖ Var 2) ⊗ (x ⊖ Var 1 ⊗ d) in
    by_one (k ∷ lx ∷ ly ∷ hx ∷ hy ∷ px ∷ py ∷ rx ∷ ry ∷ rd ∷ [])
    (((Var 0 ⊗ Var 3 ⊕ Var 4) ⊖ (Var 0 ⊗ Var 1 ⊕ Var 2)) ⊗ (Var 7 ⊗ one ⊖ Var 5 ⊗ Var 9))
    (Var 9 ⊗ side (Var 5) (Var 6) one ⊖ one ⊗ side (Var 7) (Var 8) (Var 9))
    (Var 3 ⊖ Var 1) ((Var 0 ⊗ Var 7 ⊕ Var 8) ⊗ one) ((Var 0 ⊗ Var 5 ⊕ Var 6) ⊗ Var 9) refl h

-- the mean of the ends whose weights are the gaps of the sweep values to t has the sweep value t
mean_sweep : (k lx ly hx hy t m n : ℤ) → ((k *ℤ hx) +ℤ hy) -ℤ t ≡ m → t -ℤ ((k *ℤ lx) +ℤ ly) ≡ n
    → ((k *ℤ ((m *ℤ lx) +ℤ (n *ℤ hx))) +ℤ ((m *ℤ ly) +ℤ (n *ℤ hy))) *ℤ pos 1 ≡ t *ℤ (m +ℤ n)
mean_sweep k lx ly hx hy t m n e f =
    let l = Var 0 ⊗ Var 1 ⊕ Var 2 in
    let h = Var 0 ⊗ Var 3 ⊕ Var 4 in
    by_two (k ∷ lx ∷ ly ∷ hx ∷ hy ∷ t ∷ m ∷ n ∷ [])
    ((Var 0 ⊗ (Var 6 ⊗ Var 1 ⊕ Var 7 ⊗ Var 3) ⊕ (Var 6 ⊗ Var 2 ⊕ Var 7 ⊗ Var 4)) ⊗ Lit (pos 1)) (Var 5 ⊗ (Var 6 ⊕ Var 7))
    (Var 5 ⊖ l) (h ⊖ Var 5) (Var 6)
    (Var 5 ⊖ h) (Var 5 ⊖ l) (Var 7) refl e f

-- ---- the point of the segment with the sweep value of p

record HasLevel (s : Seg) (p : Coord) : Type 0 where
  at : Point
  on : IsOn s at
  level : sweep at *ℤ pos 1 ≡ sweep (at_coord p) *ℤ pos at.d

level_by : (s : Seg) (p : Coord) (m n : ℕ) → Rises s → sweep (at_coord s.hi) -ℤ sweep (at_coord p) ≡ pos m → sweep (at_coord p) -ℤ sweep (at_coord s.lo) ≡ pos n → HasLevel s p
unfolding sweep
level_by s p m n rises high low =
    let some : 1 ≤ m + n = omega (arith, lin) in
    let r : Point = record { x = (pos m *ℤ s.lo.x) +ℤ (pos n *ℤ s.hi.x); y = (pos m *ℤ s.lo.y) +ℤ (pos n *ℤ s.hi.y); d = m + n; positive = some } in
    record {
      at = r;
      on = between_by r (at_coord s.lo) (at_coord s.hi) (pos 1) (pos m) (pos n) (omega (arith, lin)) (omega (arith, lin)) (omega (arith, lin))
          (one_mul r.x) (one_mul r.y) (omega (arith, lin, one_mul (pos (m + n)), mul_one (pos m), mul_one (pos n)));
      level = mean_sweep (pos (2 ^ 30)) s.lo.x s.lo.y s.hi.x s.hi.y (sweep (at_coord p)) (pos m) (pos n) high low;
    }

level-of : (s : Seg) (p : Coord) → Rises s → sweep (at_coord s.lo) ≤ℤ sweep (at_coord p) → sweep (at_coord p) ≤ℤ sweep (at_coord s.hi) → HasLevel s p
level-of s p rises from to =
    let m = natural (sweep (at_coord s.hi) -ℤ sweep (at_coord p)) (omega (arith, lin)) in
    let n = natural (sweep (at_coord p) -ℤ sweep (at_coord s.lo)) (omega (arith, lin)) in
    level_by s p m.0 n.0 rises m.1 n.1

-- how far a point of the segment on the ray of p is to the right of p has the sign of p's side
gap_is : (s : Seg) (p : Coord) (r : Point) → IsOn s r → sweep r *ℤ pos 1 ≡ sweep (at_coord p) *ℤ pos r.d
    → (sweep (at_coord s.hi) -ℤ sweep (at_coord s.lo)) *ℤ ((r.x *ℤ pos 1) -ℤ (p.x *ℤ pos r.d)) ≡ pos r.d *ℤ side s (at_coord p)
unfolding side sweep
gap_is s p r on level =
    let gap = gap_by_sides (pos (2 ^ 30)) s.lo.x s.lo.y s.hi.x s.hi.y p.x p.y r.x r.y (pos r.d) level in
    let zero = ap (λ x. pos 1 *ℤ x) (side_zero-on s r on) ∙ mul_zero (pos 1) in
    omega (arith, lin)

-- ---- below and above

below-side : (s : Seg) (p : Coord) → Rises s → LiesBelow (at_coord p) s → side s (at_coord p) <ℤ pos 0
below-side s p rises b =
    let r = b.at in
    let gap = gap_is s p r b.on b.beyond.on_line in
    let further = b.beyond.further in
    let product = positive_times_negative {x = sweep (at_coord s.hi) -ℤ sweep (at_coord s.lo)} {y = (r.x *ℤ pos 1) -ℤ (p.x *ℤ pos r.d)} (omega (arith, lin)) (omega (arith, lin)) in
    let positive = d_positive r in
    negative_factor (pos r.d) (side s (at_coord p)) (omega (arith, lin)) (omega (arith, lin))

side-below : (s : Seg) (p : Coord) → Rises s → HasLevel s p → side s (at_coord p) <ℤ pos 0 → LiesBelow (at_coord p) s
side-below s p rises at below =
    let r = at.at in
    let gap = gap_is s p r at.on at.level in
    let product = positive_times_negative {x = pos r.d} {y = side s (at_coord p)} (d_positive r) below in
    let left = negative_factor (sweep (at_coord s.hi) -ℤ sweep (at_coord s.lo)) ((r.x *ℤ pos 1) -ℤ (p.x *ℤ pos r.d)) (omega (arith, lin)) (omega (arith, lin)) in
    record { at = r; on = at.on; beyond = record { on_line = at.level; further = omega (arith, lin) } }

above-side : (s : Seg) (p : Coord) → Rises s → LiesAbove (at_coord p) s → pos 0 <ℤ side s (at_coord p)
above-side s p rises a =
    let r = a.at in
    let gap = gap_is s p r a.on (sym a.beyond.on_line) in
    let further = a.beyond.further in
    let product = positive_times_positive {x = sweep (at_coord s.hi) -ℤ sweep (at_coord s.lo)} {y = (r.x *ℤ pos 1) -ℤ (p.x *ℤ pos r.d)} (omega (arith, lin)) (omega (arith, lin)) in
    let positive = d_positive r in
    positive_factor (pos r.d) (side s (at_coord p)) (omega (arith, lin)) (omega (arith, lin))

side-above : (s : Seg) (p : Coord) → Rises s → HasLevel s p → pos 0 <ℤ side s (at_coord p) → LiesAbove (at_coord p) s
side-above s p rises at above =
    let r = at.at in
    let gap = gap_is s p r at.on at.level in
    let product = positive_times_positive {x = pos r.d} {y = side s (at_coord p)} (d_positive r) above in
    let right = positive_factor (sweep (at_coord s.hi) -ℤ sweep (at_coord s.lo)) ((r.x *ℤ pos 1) -ℤ (p.x *ℤ pos r.d)) (omega (arith, lin)) (omega (arith, lin)) in
    record { at = r; on = at.on; beyond = record { on_line = sym at.level; further = omega (arith, lin) } }

-- ---- the side of a point as an answer

-- negative, zero or positive
abbrev pub TellsSide : Seg → Coord → Ordering → Type 0
TellsSide s p r = MatchOrdering r (side s (at_coord p) <ℤ pos 0) (side s (at_coord p) ≡ pos 0) (pos 0 <ℤ side s (at_coord p))

-- the turn, as its bits are read again, against 0
pub tells_side : (s : Seg) (p : Coord) (t : ℤ) (r : Ordering) → FitsSigned w64 t → t ≡ side s (at_coord p) → r ≡ int_cmp (read w64 t) (pos 0) → TellsSide s p r
tells_side s p t r fits turn is =
    subst (λ x. MatchOrdering r (x <ℤ pos 0) (x ≡ pos 0) (pos 0 <ℤ x)) (read_is w64 t _ fits turn) (int_ranked (read w64 t) (pos 0) r is)

-- ---- a point within the segment's sweep range

module _ (s : Seg) (p : Coord) (rises : Rises s) (from : sweep (at_coord s.lo) ≤ℤ sweep (at_coord p)) (to : sweep (at_coord p) ≤ℤ sweep (at_coord s.hi)) where
  below-is : LiesBelow (at_coord p) s ↔ (side s (at_coord p) <ℤ pos 0)
  below-is = (below-side s p rises, side-below s p rises (level-of s p rises from to))

  on-zero : IsOn s (at_coord p) ↔ (side s (at_coord p) ≡ pos 0)
  on-zero = (side_zero-on s (at_coord p), λ zero. on_from_turn s p rises (sym (side-at_coord s p) ∙ zero) from to)

  above-is : LiesAbove (at_coord p) s ↔ (pos 0 <ℤ side s (at_coord p))
  above-is = (above-side s p rises, side-above s p rises (level-of s p rises from to))

  pub less-below : (r : Ordering) → TellsSide s p r → (r ≡ Less) ↔ LiesBelow (at_coord p) s
  less-below Less h = (λ _. below-is.1 h, λ _. refl)
  less-below Equal h = (λ e. absurd (cc), λ b. absurd (lt_excludes_eq (below-is.0 b) h))
  less-below Greater h = (λ e. absurd (cc), λ b. absurd (lt_irrefl (lt_trans h (below-is.0 b))))

  pub equal-on : (r : Ordering) → TellsSide s p r → (r ≡ Equal) ↔ IsOn s (at_coord p)
  equal-on Less h = (λ e. absurd (cc), λ on. absurd (lt_excludes_eq h (on-zero.0 on)))
  equal-on Equal h = (λ _. on-zero.1 h, λ _. refl)
  equal-on Greater h = (λ e. absurd (cc), λ on. absurd (lt_excludes_eq h (sym (on-zero.0 on))))

  pub greater-above : (r : Ordering) → TellsSide s p r → (r ≡ Greater) ↔ LiesAbove (at_coord p) s
  greater-above Less h = (λ e. absurd (cc), λ a. absurd (lt_irrefl (lt_trans h (above-is.0 a))))
  greater-above Equal h = (λ e. absurd (cc), λ a. absurd (lt_excludes_eq (above-is.0 a) (sym h)))
  greater-above Greater h = (λ _. above-is.1 h, λ _. refl)
