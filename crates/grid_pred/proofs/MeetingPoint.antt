-- The point in which two segments cross: the mean of the ends of the one with their distances from the other as weights.
use mathlib.Core.List.{[], ◌∷◌}
use Rattle.std.proofs.Common.{◌≡◌, inl, inr, sym, ◌∙◌, ap, refl, ℕ, ◌^◌, ℤ, pos, neg_ℤ, ◌+ℤ◌, ◌-ℤ◌, ◌*ℤ◌, ◌<ℤ◌, ◌≤ℤ◌, unsigned_abs, subst, FitsSigned, lit<, arith}
use mir.Syntax.{w64}
use Rattle.integer_laws.proofs.Ring.{lin, by_three, Var, Lit, ◌⊕◌, ◌⊖◌, ◌⊗◌, Neg, mul_add, mul_comm}
use Rattle.integer_laws.proofs.Cast.{int_casts, positive_natural}
use Rattle.integer_laws.proofs.Compare.{le_cases, le_of_lt, apart_cases}
use Rattle.integer_laws.proofs.Order.{mul_le, cancel_lt_right}
use Rattle.integer_laws.proofs.Bound.{IsWithin, within_fits, within_neg, abs_within}
use Rattle.cov_types.specs.declared.coord.TheConstants.{LIMIT}
use Rattle.cov_types.specs.declared.seg.Seg.{Seg}
use Rattle.cov_types.specs.Range.{IsSegInRange}
use Rattle.plane.specs.declared.contact.Contact.TheVariants.{Bad}
use Rattle.plane.specs.declared.contact.Badness.TheVariants.{Cross}
use Rattle.plane.specs.Point.{Point, SamePoint, at_coord}
use Rattle.plane.specs.Segment.{IsOn, IsEnd, turn_of}
use Rattle.plane.specs.Ray.{sweep, Rises}
use Rattle.plane.specs.Contact.{IsCommon, IsContact}
use Rattle.plane.proofs.Points.{d_positive, same_point-sym, same_point-trans}
use Rattle.plane.proofs.Same.{on-same}
use Rattle.plane.proofs.Contacts.{end-same, one_is_not_two}
use Rattle.plane.proofs.Sides.{side_zero-on}
use Rattle.plane.proofs.Sweeps.{rises-in_range, sweep-on_from, sweep-on_to, same_as_lo, same_as_hi}
use Rattle.plane.proofs.Meeting.{AreOpposite, turns-balance, equal_opposite, only-x, only-y}
use Rattle.plane.proofs.Along.{overlapping}
use Rattle.grid_pred.specs.declared.cross.Cross.{Cross as CrossPoint}
use Rattle.grid_pred.specs.Crossing.{IsCrossing, at_cross, IsCrossInRange}
use Rattle.grid_pred.proofs.Small.{read, read_is}
use Rattle.grid_pred.proofs.BySides.{one_side_apart, opposite_from}

-- ---- segments that cross are not parallel

-- neither of two segments with a common point is strictly on one side of the other
opposite_common : (s t : Seg) (r : Point) → IsCommon s t r → AreOpposite (turn_of s.lo s.hi t.lo) (turn_of s.lo s.hi t.hi)
opposite_common s t r common = opposite_from _ _ (λ side. absurd (one_side_apart s t side r common))

-- a point of a segment that is not its hi comes before hi, and one that is not its lo comes after lo
before_hi : (s : Seg) (r : Point) → Rises s → IsOn s r → ¬ IsEnd s r → sweep r <ℤ (sweep (at_coord s.hi) *ℤ pos r.d)
before_hi s r rises on inside =
    elim (le_cases (sweep-on_to s r (le_of_lt rises) on)) [ inl l ↦ l | inr e ↦ absurd (inside (inr (same_as_hi s r rises (side_zero-on s r on) e))) ]

after_lo : (s : Seg) (r : Point) → Rises s → IsOn s r → ¬ IsEnd s r → (sweep (at_coord s.lo) *ℤ pos r.d) <ℤ sweep r
after_lo s r rises on inside =
    elim (le_cases (sweep-on_from s r (le_of_lt rises) on)) [ inl l ↦ l | inr e ↦ absurd (inside (inl (same_as_lo s r rises (side_zero-on s r on) (sym e)))) ]

-- a point inside both: each begins before the other ends
begins_before : (s t : Seg) (r : Point) → Rises s → Rises t → IsCommon s t r → ¬ IsEnd s r → ¬ IsEnd t r → sweep (at_coord s.lo) <ℤ sweep (at_coord t.hi)
begins_before s t r rises rises_too common inside inside_too =
    let after = after_lo s r rises common.0 inside in
    let before = before_hi t r rises_too common.1 inside_too in
    cancel_lt_right (pos r.d) (sweep (at_coord s.lo)) (sweep (at_coord t.hi)) (le_of_lt (d_positive r)) (omega (arith, lin))

pub not_parallel : (s t : Seg) (r : Point) → Rises s → Rises t → IsCrossing s t r → ¬ (turn_of t.lo t.hi s.lo ≡ turn_of t.lo t.hi s.hi)
not_parallel s t r rises rises_too h parallel =
    let common = h.only.common in
    let balance = turns-balance s.lo s.hi t.lo t.hi in
    let on_line = equal_opposite _ _ (opposite_common s t r common) (omega (arith, lin)) in
    let two =
    overlapping s t rises rises_too on_line.0 on_line.1
    (begins_before t s r rises_too rises (common.1, common.0) h.inside_other h.inside) (begins_before s t r rises rises_too common h.inside h.inside_other) in
    absurd (one_is_not_two s t r h.only two)

-- ---- the point

-- over plain variables: m and n are the sizes of hi and lo, r/d the number between a and b at the turns' weights
mean_up : (r d a b lo hi m n : ℤ) → m ≡ hi → n ≡ neg_ℤ lo → r *ℤ (hi -ℤ lo) ≡ ((hi *ℤ a) -ℤ (lo *ℤ b)) *ℤ d → r *ℤ (m +ℤ n) ≡ ((m *ℤ a) +ℤ (n *ℤ b)) *ℤ d
mean_up r d a b lo hi m n e f h =
    by_three (r ∷ d ∷ a ∷ b ∷ lo ∷ hi ∷ m ∷ n ∷ []) (Var 0 ⊗ (Var 6 ⊕ Var 7)) ((Var 6 ⊗ Var 2 ⊕ Var 7 ⊗ Var 3) ⊗ Var 1)
    (Var 0 ⊖ Var 2 ⊗ Var 1) (Var 6) (Var 5) (Var 0 ⊖ Var 3 ⊗ Var 1) (Var 7) (Neg (Var 4))
    (Lit (pos 1)) (Var 0 ⊗ (Var 5 ⊖ Var 4)) ((Var 5 ⊗ Var 2 ⊖ Var 4 ⊗ Var 3) ⊗ Var 1) refl e f h

mean_down : (r d a b lo hi m n : ℤ) → m ≡ neg_ℤ hi → n ≡ lo → r *ℤ (hi -ℤ lo) ≡ ((hi *ℤ a) -ℤ (lo *ℤ b)) *ℤ d → r *ℤ (m +ℤ n) ≡ ((m *ℤ a) +ℤ (n *ℤ b)) *ℤ d
mean_down r d a b lo hi m n e f h =
    by_three (r ∷ d ∷ a ∷ b ∷ lo ∷ hi ∷ m ∷ n ∷ []) (Var 0 ⊗ (Var 6 ⊕ Var 7)) ((Var 6 ⊗ Var 2 ⊕ Var 7 ⊗ Var 3) ⊗ Var 1)
    (Var 0 ⊖ Var 2 ⊗ Var 1) (Var 6) (Neg (Var 5)) (Var 0 ⊖ Var 3 ⊗ Var 1) (Var 7) (Var 4)
    (Neg (Lit (pos 1))) (Var 0 ⊗ (Var 5 ⊖ Var 4)) ((Var 5 ⊗ Var 2 ⊖ Var 4 ⊗ Var 3) ⊗ Var 1) refl e f h

mean_of_sizes : (r d a b lo hi m n : ℤ) → AreOpposite lo hi → m ≡ pos (unsigned_abs hi) → n ≡ pos (unsigned_abs lo)
    → r *ℤ (hi -ℤ lo) ≡ ((hi *ℤ a) -ℤ (lo *ℤ b)) *ℤ d → r *ℤ (m +ℤ n) ≡ ((m *ℤ a) +ℤ (n *ℤ b)) *ℤ d
mean_of_sizes r d a b lo hi m n (inl up) e f h = mean_up r d a b lo hi m n (omega (arith, lin, int_casts)) (omega (arith, lin, int_casts)) h
mean_of_sizes r d a b lo hi m n (inr down) e f h = mean_down r d a b lo hi m n (omega (arith, lin, int_casts)) (omega (arith, lin, int_casts)) h

-- the crossing of other fractions is that of these
crossing-same : (s t : Seg) (p q : Point) → SamePoint p q → IsCrossing s t p → IsCrossing s t q
crossing-same s t p q same h = record {
  only = record {
    common = ((on-same s p q same).0 h.only.common.0, (on-same t p q same).0 h.only.common.1);
    only = λ o common. same_point-trans o p q (h.only.only o common) same;
  };
  inside = λ e. h.inside (end-same s q p (same_point-sym p q same) e);
  inside_other = λ e. h.inside_other (end-same t q p (same_point-sym p q same) e);
}

-- where the contact is Cross there is one
pub crosses_at : (s t : Seg) (h : IsContact s t (Bad Cross)) → IsCrossing s t h.0
crosses_at s t h = record { only = h.1.0; inside = h.1.1; inside_other = h.1.2 }

pub contact_at : (s t : Seg) (p : Point) → IsCrossing s t p → IsContact s t (Bad Cross)
contact_at s t p h = (p, (h.only, h.inside, h.inside_other))

-- the weights of the ends of s: the distance of the other end from t
pub record AreWeights (s t : Seg) (m n : ℤ) : Type 0 where
  pub lo : m ≡ pos (unsigned_abs (turn_of t.lo t.hi s.hi))
  pub hi : n ≡ pos (unsigned_abs (turn_of t.lo t.hi s.lo))

pub weights_positive : (s t : Seg) (m n : ℤ) (r : Point) → IsSegInRange s → IsSegInRange t → IsCrossing s t r → AreWeights s t m n → pos 0 <ℤ (m +ℤ n)
weights_positive s t m n r rs rt h w =
    let lo = w.lo in
    let hi = w.hi in
    elim (apart_cases (not_parallel s t r (rises-in_range s rs) (rises-in_range t rt) h)) [ inl l ↦ omega (arith, lin, int_casts) | inr g ↦ omega (arith, lin, int_casts) ]

-- c is the mean of the ends of s with the weights m and n
pub record IsMeanOfEnds (s : Seg) (m n : ℤ) (c : CrossPoint) : Type 0 where
  pub x : c.num_x ≡ (m *ℤ s.lo.x) +ℤ (n *ℤ s.hi.x)
  pub y : c.num_y ≡ (m *ℤ s.lo.y) +ℤ (n *ℤ s.hi.y)
  pub den : c.den ≡ m +ℤ n

pub mean_is_crossing : (s t : Seg) (m n : ℤ) (c : CrossPoint) (r : Point) → IsCrossing s t r → AreWeights s t m n → IsMeanOfEnds s m n c → IsCrossing s t (at_cross c)
mean_is_crossing s t m n c r h w mean =
    let common = h.only.common in
    let on_s = side_zero-on s r common.0 in
    let on_t = side_zero-on t r common.1 in
    let opposite = opposite_common t s r (common.1, common.0) in
    let d = (positive_natural c.den c.positive).2 in
    let at = λ (z : ℤ). z *ℤ pos r.d in
    crossing-same s t r (at_cross c) (
      ap (λ z. r.x *ℤ z) (sym d ∙ mean.den) ∙ mean_of_sizes r.x (pos r.d) s.lo.x s.hi.x _ _ m n opposite w.lo w.hi (only-x s t r on_s on_t) ∙ ap at (sym mean.x),
      ap (λ z. r.y *ℤ z) (sym d ∙ mean.den) ∙ mean_of_sizes r.y (pos r.d) s.lo.y s.hi.y _ _ m n opposite w.lo w.hi (only-y s t r on_s on_t) ∙ ap at (sym mean.y),
    ) h

-- ---- its range

pub size_nonneg : (m : ℤ) (n : ℕ) → m ≡ pos n → pos 0 ≤ℤ m
size_nonneg m n e = omega (arith, lin)

mean_low : (l m n a b : ℤ) → pos 0 ≤ℤ m → pos 0 ≤ℤ n → l ≤ℤ a → l ≤ℤ b → (l *ℤ (m +ℤ n)) ≤ℤ ((m *ℤ a) +ℤ (n *ℤ b))
mean_low l m n a b hm hn ha hb = omega (arith, lin, mul_add l m n, mul_comm l m, mul_comm l n, mul_le m hm ha, mul_le n hn hb)

mean_high : (l m n a b : ℤ) → pos 0 ≤ℤ m → pos 0 ≤ℤ n → a ≤ℤ l → b ≤ℤ l → ((m *ℤ a) +ℤ (n *ℤ b)) ≤ℤ (l *ℤ (m +ℤ n))
mean_high l m n a b hm hn ha hb = omega (arith, lin, mul_add l m n, mul_comm l m, mul_comm l n, mul_le m hm ha, mul_le n hn hb)

low_at : (l d w x z : ℤ) → d ≡ w → x ≡ z → (l *ℤ w) ≤ℤ z → (l *ℤ d) ≤ℤ x
low_at l d w x z e f h = let moved = ap (λ v. l *ℤ v) e in omega (arith, lin)

high_at : (l d w x z : ℤ) → d ≡ w → x ≡ z → z ≤ℤ (l *ℤ w) → x ≤ℤ (l *ℤ d)
high_at l d w x z e f h = let moved = ap (λ v. l *ℤ v) e in omega (arith, lin)

pub mean_in_range : (s : Seg) (m n : ℤ) (c : CrossPoint) → IsSegInRange s → IsWithin (2 ^ 59) m → IsWithin (2 ^ 59) n → pos 0 ≤ℤ m → pos 0 ≤ℤ n → IsMeanOfEnds s m n c → IsCrossInRange c
mean_in_range s m n c range small_m small_n hm hn mean =
    let lo = range.lo in
    let hi = range.hi in
    let den = mean.den in
    record {
      small = omega (arith, lin);
      left = low_at (neg_ℤ LIMIT) _ _ _ _ mean.den mean.x (mean_low (neg_ℤ LIMIT) m n s.lo.x s.hi.x hm hn lo.left hi.left);
      right = high_at LIMIT _ _ _ _ mean.den mean.x (mean_high LIMIT m n s.lo.x s.hi.x hm hn lo.right hi.right);
      bottom = low_at (neg_ℤ LIMIT) _ _ _ _ mean.den mean.y (mean_low (neg_ℤ LIMIT) m n s.lo.y s.hi.y hm hn lo.bottom hi.bottom);
      top = high_at LIMIT _ _ _ _ mean.den mean.y (mean_high LIMIT m n s.lo.y s.hi.y hm hn lo.top hi.top);
    }

-- ---- its weights are small

pub negation_fits : (x z : ℤ) → FitsSigned w64 x → x ≡ z → IsWithin (2 ^ 59) z → FitsSigned w64 (neg_ℤ (read w64 x))
negation_fits x z fits e h = subst (λ v. FitsSigned w64 (neg_ℤ v)) (sym (read_is w64 x z fits e)) (within_fits w64 (lit< tt) (within_neg h))

pub distance_is : (x z d : ℤ) → FitsSigned w64 x → FitsSigned w64 d → x ≡ z → d ≡ pos (unsigned_abs (read w64 x)) → read w64 d ≡ pos (unsigned_abs z)
distance_is x z d fits fits_d e k = read_is w64 d _ fits_d (k ∙ ap (λ v. pos (unsigned_abs v)) (read_is w64 x z fits e))

pub distance_small : (z : ℤ) → IsWithin (2 ^ 59) z → IsWithin (2 ^ 59) (pos (unsigned_abs z))
distance_small z h = record { low = omega (arith, lin); high = omega (arith, lin, abs_within h) }
