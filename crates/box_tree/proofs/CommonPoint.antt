-- Points in boxes: a point of a segment is in its box, and boxes with a common point touch.
use mathlib.Core.List.{[], ◌∷◌}
use Rattle.std.proofs.Common.{◌≡◌, refl, ℤ, pos, neg_ℤ, ◌-ℤ◌, ◌*ℤ◌, ◌≤ℤ◌, true, arith}
use Rattle.std.proofs.lemmas.Int.{ints, clamps}
use Rattle.std.specs.Int.{int_min, int_max}
use Rattle.integer_laws.proofs.Ring.{lin, by_ring, Var, Lit, Neg, ◌⊕◌, ◌⊖◌, ◌⊗◌, mul_one}
use Rattle.integer_laws.proofs.Compare.{le_trans}
use Rattle.integer_laws.proofs.Order.{cancel_le_right}
use Rattle.cov_types.specs.declared.seg.Seg.{Seg}
use Rattle.plane.specs.Point.{Point, at_coord}
use Rattle.plane.specs.Segment.{IsOn}
use Rattle.plane.proofs.Forms.{form, form_not_negative-between, form_not_positive-between}
use Rattle.plane.proofs.Points.{d_positive}
use Rattle.box_tree.proofs.Touching.{is_touching-is}
use Rattle.box_tree.specs.Rect.{is_touching, box_of_segment}
use Rattle.box_tree.specs.declared.rect.Rect.{Rect}

-- the closed box has the point
pub record HasPoint (b : Rect) (p : Point) : Type 0 where
  pub left : (b.lo.x *ℤ pos p.d) ≤ℤ p.x
  pub right : p.x ≤ℤ (b.hi.x *ℤ pos p.d)
  pub bottom : (b.lo.y *ℤ pos p.d) ≤ℤ p.y
  pub top : p.y ≤ℤ (b.hi.y *ℤ pos p.d)

-- the lesser of two numbers is at most each, and the greater at least
pub least_first : (a b : ℤ) → int_min a b ≤ℤ a
least_first a b = omega (arith, ints, clamps)

pub least_second : (a b : ℤ) → int_min a b ≤ℤ b
least_second a b = omega (arith, ints, clamps)

pub greatest_first : (a b : ℤ) → a ≤ℤ int_max a b
greatest_first a b = omega (arith, ints, clamps)

pub greatest_second : (a b : ℤ) → b ≤ℤ int_max a b
greatest_second a b = omega (arith, ints, clamps)

-- how far a point is to the right of a column, and above a row, times its denominator
across_form : (k : ℤ) (p : Point) → form (pos 1) (pos 0) (neg_ℤ k) p ≡ p.x -ℤ (k *ℤ pos p.d)
unfolding form
across_form k p =
    by_ring (k ∷ p.x ∷ p.y ∷ pos p.d ∷ []) ((Lit (pos 1) ⊗ Var 1 ⊕ Lit (pos 0) ⊗ Var 2) ⊕ Neg (Var 0) ⊗ Var 3) (Var 1 ⊖ Var 0 ⊗ Var 3) refl

up_form : (k : ℤ) (p : Point) → form (pos 0) (pos 1) (neg_ℤ k) p ≡ p.y -ℤ (k *ℤ pos p.d)
unfolding form
up_form k p =
    by_ring (k ∷ p.x ∷ p.y ∷ pos p.d ∷ []) ((Lit (pos 0) ⊗ Var 1 ⊕ Lit (pos 1) ⊗ Var 2) ⊕ Neg (Var 0) ⊗ Var 3) (Var 2 ⊖ Var 0 ⊗ Var 3) refl

right_of : (s : Seg) (p : Point) (k : ℤ) → IsOn s p → k ≤ℤ s.lo.x → k ≤ℤ s.hi.x → (k *ℤ pos p.d) ≤ℤ p.x
right_of s p k on h i =
    let lo = at_coord s.lo in
    let hi = at_coord s.hi in
    let at = form_not_negative-between (pos 1) (pos 0) (neg_ℤ k) p lo hi on (omega (arith, lin, across_form k lo, mul_one k)) (omega (arith, lin, across_form k hi, mul_one k)) in
    omega (arith, lin, across_form k p)

left_of : (s : Seg) (p : Point) (k : ℤ) → IsOn s p → s.lo.x ≤ℤ k → s.hi.x ≤ℤ k → p.x ≤ℤ (k *ℤ pos p.d)
left_of s p k on h i =
    let lo = at_coord s.lo in
    let hi = at_coord s.hi in
    let at = form_not_positive-between (pos 1) (pos 0) (neg_ℤ k) p lo hi on (omega (arith, lin, across_form k lo, mul_one k)) (omega (arith, lin, across_form k hi, mul_one k)) in
    omega (arith, lin, across_form k p)

above : (s : Seg) (p : Point) (k : ℤ) → IsOn s p → k ≤ℤ s.lo.y → k ≤ℤ s.hi.y → (k *ℤ pos p.d) ≤ℤ p.y
above s p k on h i =
    let lo = at_coord s.lo in
    let hi = at_coord s.hi in
    let at = form_not_negative-between (pos 0) (pos 1) (neg_ℤ k) p lo hi on (omega (arith, lin, up_form k lo, mul_one k)) (omega (arith, lin, up_form k hi, mul_one k)) in
    omega (arith, lin, up_form k p)

below : (s : Seg) (p : Point) (k : ℤ) → IsOn s p → s.lo.y ≤ℤ k → s.hi.y ≤ℤ k → p.y ≤ℤ (k *ℤ pos p.d)
below s p k on h i =
    let lo = at_coord s.lo in
    let hi = at_coord s.hi in
    let at = form_not_positive-between (pos 0) (pos 1) (neg_ℤ k) p lo hi on (omega (arith, lin, up_form k lo, mul_one k)) (omega (arith, lin, up_form k hi, mul_one k)) in
    omega (arith, lin, up_form k p)

-- a point of a segment is in its box
pub in_box-on : (s : Seg) (p : Point) → IsOn s p → HasPoint (box_of_segment s) p
in_box-on s p on =
    record {
      left = right_of s p (int_min s.lo.x s.hi.x) on (least_first s.lo.x s.hi.x) (least_second s.lo.x s.hi.x);
      right = left_of s p (int_max s.lo.x s.hi.x) on (greatest_first s.lo.x s.hi.x) (greatest_second s.lo.x s.hi.x);
      bottom = above s p (int_min s.lo.y s.hi.y) on (least_first s.lo.y s.hi.y) (least_second s.lo.y s.hi.y);
      top = below s p (int_max s.lo.y s.hi.y) on (greatest_first s.lo.y s.hi.y) (greatest_second s.lo.y s.hi.y);
    }

-- boxes with a common point touch
pub touch-common : (a b : Rect) (p : Point) → HasPoint a p → HasPoint b p → is_touching a b ≡ true
touch-common a b p h k =
    let d = d_positive p in
    (is_touching-is a b).1 (record {
      left = cancel_le_right (pos p.d) a.lo.x b.hi.x d (le_trans h.left k.right);
      right = cancel_le_right (pos p.d) b.lo.x a.hi.x d (le_trans k.left h.right);
      below = cancel_le_right (pos p.d) a.lo.y b.hi.y d (le_trans h.bottom k.top);
      above = cancel_le_right (pos p.d) b.lo.y a.hi.y d (le_trans k.bottom h.top);
    })

-- the boxes of segments with a common point touch
pub touch-common_of_segments : (s t : Seg) (p : Point) → IsOn s p → IsOn t p → is_touching (box_of_segment s) (box_of_segment t) ≡ true
touch-common_of_segments s t p on_s on_t = touch-common (box_of_segment s) (box_of_segment t) p (in_box-on s p on_s) (in_box-on t p on_t)
