-- Opposite sides give a common point, and strictly opposite sides one inside both segments.
use mathlib.Core.List.{[], ◌∷◌}
use Rattle.std.proofs.Common.{◌≡◌, refl, sym, ◌∙◌, ap, ℕ, ℤ, pos, neg_ℤ, ◌+ℤ◌, ◌-ℤ◌, ◌*ℤ◌, ◌≤ℤ◌, ◌<ℤ◌, inl, inr, ⊎_elim, unsigned_abs, arith}
use Rattle.cov_types.specs.declared.coord.Coord.{Coord}
use Rattle.cov_types.specs.declared.seg.Seg.{Seg}
use Rattle.integer_laws.proofs.Ring.{lin, by_ring, Var, Lit, ◌⊕◌, ◌⊖◌, ◌⊗◌, zero_mul, mul_comm}
use Rattle.integer_laws.proofs.Compare.{le_of_lt, lt_or_ge, lt_excludes_eq}
use Rattle.integer_laws.proofs.Cast.{unsigned_abs_nonneg, unsigned_abs_negative}
use Rattle.integer_laws.proofs.Sign.{zero_factor, nonneg_times_nonneg, nonpos_times_nonneg, nonneg_factor, nonpos_factor}
use Rattle.plane.specs.Point.{Point, at_coord, SamePoint}
use Rattle.plane.specs.Segment.{side, IsOn, IsEnd}
use Rattle.plane.proofs.Points.{d_positive}
use Rattle.plane.proofs.Sides.{side_zero-on, side-same}
use Rattle.crossing_laws.specs.Meeting.{side_from, IsOpposite, IsStrictlyOpposite, AreZero, IsMeeting}
use Rattle.crossing_laws.proofs.Sides.{IsTied, AreCrossed, sides_tie, tied_negated, meeting, gap_of_all, weight_of_gap}

-- ---- a way and a segment

-- over plain variables: opposite sides in the wrong order are all 0
only_zero : (at_p at_q at_hi at_lo pd qd : ℤ) → pos 0 <ℤ pd → pos 0 <ℤ qd → (at_q *ℤ pd) -ℤ (at_p *ℤ qd) ≡ at_lo -ℤ at_hi
    → at_p ≤ℤ pos 0 → pos 0 ≤ℤ at_q → at_lo ≤ℤ pos 0 → pos 0 ≤ℤ at_hi → AreZero at_p at_q at_lo at_hi
only_zero at_p at_q at_hi at_lo pd qd positive_p positive_q depth hp hq hlo hhi =
    let q_part = nonneg_times_nonneg {x = at_q} {y = pd} hq (le_of_lt positive_p) in
    let p_part = nonpos_times_nonneg {x = at_p} {y = qd} hp (le_of_lt positive_q) in
    let q_low = nonpos_factor pd at_q positive_p (omega (arith, lin, mul_comm pd at_q)) in
    let p_high = nonneg_factor qd at_p positive_q (omega (arith, lin, mul_comm qd at_p)) in
    record { first = omega (arith, lin); second = omega (arith, lin); third = omega (arith, lin); fourth = omega (arith, lin) }

-- opposite sides that are not all 0
some_gap : (at_p at_q at_hi at_lo : ℤ) → AreCrossed at_p at_q at_hi at_lo → ¬ AreZero at_p at_q at_lo at_hi → pos 0 <ℤ ((at_q -ℤ at_p) +ℤ (at_lo -ℤ at_hi))
some_gap at_p at_q at_hi at_lo o some =
    elim (lt_or_ge (pos 0) ((at_q -ℤ at_p) +ℤ (at_lo -ℤ at_hi))) [
      | inl gap ↦ gap
      | inr none ↦ absurd (
          let (p, q, hi, lo) : (at_p ≤ℤ pos 0) × (pos 0 ≤ℤ at_q) × (at_hi ≤ℤ pos 0) × (pos 0 ≤ℤ at_lo) = (o.p, o.q, o.hi, o.lo) in
          some (record { first = omega (arith, lin); second = omega (arith, lin); third = omega (arith, lin); fourth = omega (arith, lin) })
          )
    ]

-- p on the right and q on the left
meet_to_left : (s : Seg) (p q : Point) (at_p at_q at_hi at_lo : ℤ) (m n : ℕ) → IsTied s p q at_p at_q at_hi at_lo → at_p ≤ℤ pos 0 → pos 0 ≤ℤ at_q
    → IsOpposite at_lo at_hi → ¬ AreZero at_p at_q at_lo at_hi → at_p ≡ neg_ℤ (pos n) → at_q ≡ pos m → (r : Point) × IsMeeting s p q m n r
meet_to_left s p q at_p at_q at_hi at_lo m n t hp hq k some en em =
    elim k [
      | inl wrong ↦ absurd (some (only_zero at_p at_q at_hi at_lo (pos p.d) (pos q.d) (d_positive p) (d_positive q) t.d hp hq wrong.0 wrong.1))
      | inr right ↦ (
          let o : AreCrossed at_p at_q at_hi at_lo = record { p = hp; q = hq; hi = right.0; lo = right.1 } in
          let gap = gap_of_all at_p at_q at_hi at_lo (pos p.d) (pos q.d) t.d hp hq (some_gap at_p at_q at_hi at_lo o some) in
          meeting s p q at_p at_q at_hi at_lo m n t o en em (weight_of_gap m n at_p at_q en em gap)
          )
    ]

negated_sides : (a b : ℤ) → IsOpposite a b → IsOpposite (neg_ℤ a) (neg_ℤ b)
negated_sides a b h =
    elim h [
      | inl up ↦ inr (omega (arith, lin, up.1), omega (arith, lin, up.0))
      | inr down ↦ inl (omega (arith, lin, down.1), omega (arith, lin, down.0))
    ]

negated_zero : (a b c d : ℤ) → AreZero (neg_ℤ a) (neg_ℤ b) (neg_ℤ c) (neg_ℤ d) → AreZero a b c d
negated_zero a b c d h =
    record { first = omega (arith, lin, h.first); second = omega (arith, lin, h.second); third = omega (arith, lin, h.third); fourth = omega (arith, lin, h.fourth) }

pub opposite_meet : (s : Seg) (p q : Point) → IsOpposite (side s p) (side s q) → IsOpposite (side_from p q s.lo) (side_from p q s.hi)
    → ¬ AreZero (side s p) (side s q) (side_from p q s.lo) (side_from p q s.hi)
    → (r : Point) × IsMeeting s p q (unsigned_abs (side s q)) (unsigned_abs (side s p)) r
opposite_meet s p q h k some =
    let t = sides_tie s p q in
    let n = tied_negated s p q (side s p) (side s q) (side_from p q s.hi) (side_from p q s.lo) t in
    elim h [
      | inl left ↦
          meet_to_left s p q _ _ _ _ (unsigned_abs (side s q)) (unsigned_abs (side s p)) t left.0 left.1 k some
          (omega (arith, lin, unsigned_abs_negative (side s p) left.0)) (sym (unsigned_abs_nonneg (side s q) left.1))
      | inr right ↦
          meet_to_left s p q _ _ _ _ (unsigned_abs (side s q)) (unsigned_abs (side s p)) n (omega (arith, lin, right.1)) (omega (arith, lin, right.0))
          (negated_sides (side_from p q s.lo) (side_from p q s.hi) k) (λ z. some (negated_zero _ _ _ _ z))
          (ap neg_ℤ (sym (unsigned_abs_nonneg (side s p) right.1))) (sym (unsigned_abs_negative (side s q) right.0))
    ]

-- ---- two segments

side_from-ends : (t : Seg) (v : Coord) → side_from (at_coord t.lo) (at_coord t.hi) v ≡ side t (at_coord v)
unfolding side side_from
side_from-ends t v =
    by_ring (t.lo.x ∷ t.lo.y ∷ t.hi.x ∷ t.hi.y ∷ v.x ∷ v.y ∷ [])
    (Var 0 ⊗ (Var 3 ⊖ Lit (pos 1) ⊗ Var 5) ⊖ Var 1 ⊗ (Var 2 ⊖ Lit (pos 1) ⊗ Var 4) ⊕ Lit (pos 1) ⊗ (Var 2 ⊗ Var 5 ⊖ Var 3 ⊗ Var 4))
    ((Var 2 ⊖ Var 0) ⊗ (Var 5 ⊖ Var 1 ⊗ Lit (pos 1)) ⊖ (Var 3 ⊖ Var 1) ⊗ (Var 4 ⊖ Var 0 ⊗ Lit (pos 1))) refl

weakly : (a b : ℤ) → IsStrictlyOpposite a b → IsOpposite a b
weakly a b h = elim h [ inl up ↦ inl (le_of_lt up.0, le_of_lt up.1) | inr down ↦ inr (le_of_lt down.0, le_of_lt down.1) ]

none_zero : (a b : ℤ) → IsStrictlyOpposite a b → ¬ (a ≡ pos 0) × ¬ (b ≡ pos 0)
none_zero a b h =
    elim h [
      | inl up ↦ (lt_excludes_eq up.0, λ e. lt_excludes_eq up.1 (sym e))
      | inr down ↦ (λ e. lt_excludes_eq down.1 (sym e), lt_excludes_eq down.0)
    ]

-- a point of s is no grid point off the line of s
off_line : (s : Seg) (r : Point) (c : Coord) → IsOn s r → ¬ (side s (at_coord c) ≡ pos 0) → ¬ SamePoint r (at_coord c)
off_line s r c on off same =
    let on_line = ap (λ x. x *ℤ pos 1) (side_zero-on s r on) ∙ zero_mul (pos 1) in
    off (zero_factor (pos r.d) (side s (at_coord c)) (λ e. lt_excludes_eq (d_positive r) (sym e))
    (mul_comm (pos r.d) (side s (at_coord c)) ∙ sym (side-same s r (at_coord c) same) ∙ on_line))

pub segments_cross : (s t : Seg) → IsStrictlyOpposite (side s (at_coord t.lo)) (side s (at_coord t.hi)) → IsStrictlyOpposite (side t (at_coord s.lo)) (side t (at_coord s.hi))
    → (r : Point) × IsMeeting s (at_coord t.lo) (at_coord t.hi) (unsigned_abs (side s (at_coord t.hi))) (unsigned_abs (side s (at_coord t.lo))) r
    × ¬ IsEnd s r × ¬ IsEnd t r
segments_cross s t h k =
    let off_s = none_zero _ _ h in
    let off_t = none_zero _ _ k in
    let sides = weakly _ _ k in
    let (r, at) = opposite_meet s (at_coord t.lo) (at_coord t.hi) (weakly _ _ h)
    (rw (side_from-ends t s.lo, side_from-ends t s.hi) sides) (λ z. off_s.0 z.first) in (
      r,
      at,
      ⊎_elim (off_line t r s.lo at.between off_t.0) (off_line t r s.hi at.between off_t.1),
      ⊎_elim (off_line s r t.lo at.on_segment off_s.0) (off_line s r t.hi at.on_segment off_s.1),
    )
