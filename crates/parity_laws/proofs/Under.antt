-- The side of a point is a mean of how much higher it is than the two ends of the edge: so an edge that is over a point has a higher end.
use mathlib.Core.List.{[], ◌∷◌}
use Rattle.std.proofs.Common.{◌≡◌, refl, ◌^◌, IsTrue, ℤ, pos, ◌+ℤ◌, ◌-ℤ◌, ◌*ℤ◌, ◌<ℤ◌, ◌≤ℤ◌, ◌⊎◌, inl, inr, arith}
use Rattle.cov_types.specs.Range.{IsSegInRange}
use Rattle.cov_types.specs.declared.seg.Seg.{Seg}
use Rattle.integer_laws.proofs.Compare.{lt_or_ge}
use Rattle.integer_laws.proofs.Ring.{lin, by_ring, Term, Var, Lit, ◌⊕◌, ◌⊖◌, ◌⊗◌, mul_comm, pos_times}
use Rattle.integer_laws.proofs.Sign.{positive_times_positive, positive_times_negative, nonneg_times_nonneg, nonneg_times_nonpos, negative_factor}
use Rattle.parity_laws.specs.Paths.{IsHigher, IsUnder}
use Rattle.plane.specs.Point.{Point, at_coord}
use Rattle.plane.specs.Ray.{sweep, is_over}
use Rattle.plane.specs.Segment.{side, midpoint}
use Rattle.plane.proofs.Over.{IsOver, over-is}
use Rattle.plane.proofs.Points.{d_positive}

-- how far the sweep value of hi is above that of p, and that of p above that of lo, times the denominator
abbrev pub to_hi : Seg → Point → ℤ
to_hi e p = (sweep (at_coord e.hi) *ℤ pos p.d) -ℤ sweep p

abbrev pub from_lo : Seg → Point → ℤ
from_lo e p = sweep p -ℤ (sweep (at_coord e.lo) *ℤ pos p.d)

-- how much higher p is than a grid point at the height y
abbrev pub above : Point → ℤ → ℤ
above p y = p.y -ℤ (y *ℤ pos p.d)

-- the side is the mean of the heights over the ends
side_mean : (e : Seg) (p : Point) → (pos p.d *ℤ pos (2 ^ 30)) *ℤ side e p ≡ (to_hi e p *ℤ above p e.lo.y) +ℤ (from_lo e p *ℤ above p e.hi.y)
unfolding side sweep
side_mean e p =
    let slope = Lit (pos (2 ^ 30)) in
    let at = λ (x y : Term). slope ⊗ x ⊕ y in
    by_ring (e.lo.x ∷ e.lo.y ∷ e.hi.x ∷ e.hi.y ∷ p.x ∷ p.y ∷ pos p.d ∷ [])
    ((Var 6 ⊗ slope) ⊗ ((Var 2 ⊖ Var 0) ⊗ (Var 5 ⊖ Var 1 ⊗ Var 6) ⊖ (Var 3 ⊖ Var 1) ⊗ (Var 4 ⊖ Var 0 ⊗ Var 6)))
    ((at (Var 2) (Var 3) ⊗ Var 6 ⊖ at (Var 4) (Var 5)) ⊗ (Var 5 ⊖ Var 1 ⊗ Var 6) ⊕ (at (Var 4) (Var 5) ⊖ at (Var 0) (Var 1) ⊗ Var 6) ⊗ (Var 5 ⊖ Var 3 ⊗ Var 6)) refl

scale_positive : (p : Point) → pos 0 <ℤ (pos p.d *ℤ pos (2 ^ 30))
scale_positive p = positive_times_positive {x = pos p.d} {y = pos (2 ^ 30)} (d_positive p) (omega (arith, lin))

-- a point that is higher than neither end is not on the right of the edge
pub top_above : (e : Seg) (p : Point) → IsOver e p → (p.y <ℤ (e.lo.y *ℤ pos p.d)) ⊎ (p.y <ℤ (e.hi.y *ℤ pos p.d))
top_above e p over =
    elim (lt_or_ge p.y (e.lo.y *ℤ pos p.d)) [
      | inl lo ↦ inl lo
      | inr high_lo ↦ elim (lt_or_ge p.y (e.hi.y *ℤ pos p.d)) [
        | inl hi ↦ inr hi
        | inr high_hi ↦
            let first = nonneg_times_nonneg {x = to_hi e p} {y = above p e.lo.y} (omega (arith, lin, over.to)) (omega (arith, lin)) in
            let second = nonneg_times_nonneg {x = from_lo e p} {y = above p e.hi.y} (omega (arith, lin, over.from)) (omega (arith, lin)) in
            let negative = positive_times_negative {x = pos p.d *ℤ pos (2 ^ 30)} {y = side e p} (scale_positive p) over.below in
            absurd (omega (arith, lin, side_mean e p))
      ]
    ]

-- a point below both ends, between their sweep values, is on the right of the edge
pub right_below : (e : Seg) (p : Point) → IsHigher p e → (sweep (at_coord e.lo) *ℤ pos p.d) ≤ℤ sweep p → sweep p <ℤ (sweep (at_coord e.hi) *ℤ pos p.d) → side e p <ℤ pos 0
right_below e p higher from to =
    let first = positive_times_negative {x = to_hi e p} {y = above p e.lo.y} (omega (arith, lin)) (omega (arith, lin, higher.lo)) in
    let second = nonneg_times_nonpos {x = from_lo e p} {y = above p e.hi.y} (omega (arith, lin)) (omega (arith, lin, higher.hi)) in
    negative_factor (pos p.d *ℤ pos (2 ^ 30)) (side e p) (omega (arith, lin, scale_positive p)) (omega (arith, lin, side_mean e p))

-- ---- over plain variables: the sweep values of the ends and of a midpoint, in range

left_of : (lx ly hy x y : ℤ) → ((((pos (2 ^ 30) *ℤ lx) +ℤ ly) *ℤ pos 2) ≤ℤ ((pos (2 ^ 30) *ℤ x) +ℤ y)) → (y <ℤ (ly *ℤ pos 2)) ⊎ (y <ℤ (hy *ℤ pos 2))
    → (pos 0 -ℤ pos (2 ^ 28)) ≤ℤ ly → hy ≤ℤ pos (2 ^ 28) → (pos 2 *ℤ lx) ≤ℤ x
left_of lx ly hy x y from top low high =
    let twice = mul_comm ((pos (2 ^ 30) *ℤ lx) +ℤ ly) (pos 2) in
    elim top [
      | inl lo ↦ omega (arith, lin, pos_times (2 ^ 30) lx, pos_times (2 ^ 30) x, pos_times 2 ((pos (2 ^ 30) *ℤ lx) +ℤ ly), mul_comm ly (pos 2), pos_times 2 ly, pos_times 2 lx)
      | inr hi ↦ omega (arith, lin, pos_times (2 ^ 30) lx, pos_times (2 ^ 30) x, pos_times 2 ((pos (2 ^ 30) *ℤ lx) +ℤ ly), mul_comm hy (pos 2), pos_times 2 hy, pos_times 2 lx)
    ]

right_of : (hx hy x y : ℤ) → ((pos (2 ^ 30) *ℤ x) +ℤ y) <ℤ (((pos (2 ^ 30) *ℤ hx) +ℤ hy) *ℤ pos 2) → (pos 0 -ℤ pos (2 ^ 29)) ≤ℤ y → hy ≤ℤ pos (2 ^ 28) → x ≤ℤ (pos 2 *ℤ hx)
right_of hx hy x y to low high =
    omega (arith, lin, mul_comm ((pos (2 ^ 30) *ℤ hx) +ℤ hy) (pos 2), pos_times (2 ^ 30) hx, pos_times (2 ^ 30) x, pos_times 2 ((pos (2 ^ 30) *ℤ hx) +ℤ hy), pos_times 2 hx)

doubled : (x y : ℤ) → x <ℤ (y *ℤ pos 2) → x <ℤ (pos 2 *ℤ y)
doubled x y h = omega (arith, lin, mul_comm y (pos 2))

-- the midpoint of a segment in range is under each edge in range that is over it
pub over_under : (e s : Seg) → IsSegInRange e → IsSegInRange s → IsTrue (is_over e (midpoint s)) → IsUnder s e
unfolding sweep
over_under e s he hs h =
    let over = (over-is e (midpoint s)).0 h in
    let top = top_above e (midpoint s) over in
    record {
      left = left_of e.lo.x e.lo.y e.hi.y (s.lo.x +ℤ s.hi.x) (s.lo.y +ℤ s.hi.y) over.from top (omega (arith, lin, he.lo.bottom)) he.hi.top;
      right = right_of e.hi.x e.hi.y (s.lo.x +ℤ s.hi.x) (s.lo.y +ℤ s.hi.y) over.to (omega (arith, lin, hs.lo.bottom, hs.hi.bottom)) he.hi.top;
      top = elim top [ inl lo ↦ inl (doubled (s.lo.y +ℤ s.hi.y) e.lo.y lo) | inr hi ↦ inr (doubled (s.lo.y +ℤ s.hi.y) e.hi.y hi) ];
    }
