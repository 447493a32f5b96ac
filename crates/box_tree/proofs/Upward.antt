-- A probe that reaches a box reaches each box about it.
use mathlib.Core.List.{[], ◌∷◌}
use Rattle.std.proofs.Common.{◌≡◌, refl, true, ℤ, pos, neg_ℤ, ◌-ℤ◌, ◌*ℤ◌, ◌≤ℤ◌, int_le, int_lt}
use Rattle.std.proofs.lemmas.Bool.{and_parts, and_from}
use Rattle.integer_laws.proofs.Ring.{Term, Var, Lit, ◌⊖◌, ◌⊗◌}
use Rattle.integer_laws.proofs.Cast.{pos_nonneg}
use Rattle.integer_laws.proofs.Compare.{int_le_is, int_lt_is, le_trans, lt_le_trans}
use Rattle.integer_laws.proofs.Order.{mul_le, by_le_two}
use Rattle.cov_types.specs.declared.coord.Coord.{Coord}
use Rattle.cov_types.specs.declared.seg.Seg.{Seg}
use Rattle.plane.specs.Segment.{turn_of}
use Rattle.box_tree.proofs.Corners.{IsLinear, corner_upward}
use Rattle.box_tree.proofs.Descent.{IsUpward}
use Rattle.box_tree.proofs.Touching.{touch_upward}
use Rattle.box_tree.specs.Probe.{reaches, is_near_left, is_near_right, is_near_line, is_near_pixels, is_in_column, is_above_point, is_below_point, has_corner, reach_of, twice_turn}
use Rattle.box_tree.specs.Rect.{IsInside, is_touching, box_of_segment}
use Rattle.box_tree.specs.declared.probe.Probe.{Probe}
use Rattle.box_tree.specs.declared.probe.Probe.TheVariants.{Box, Pixels, Above, Below}
use Rattle.box_tree.specs.declared.rect.Rect.{Rect}

-- twice the turn, of the numbers of a segment and of a point
abbrev turn_term : Term → Term → Term
turn_term x y = Lit (pos 2) ⊗ ((Var 2 ⊖ Var 0) ⊗ (y ⊖ Var 1) ⊖ (Var 3 ⊖ Var 1) ⊗ (x ⊖ Var 0))

-- twice the turn does not grow where neither of its two products does
turn_below : (s : Seg) (x y u v : ℤ) → ((s.lo.y -ℤ s.hi.y) *ℤ u) ≤ℤ ((s.lo.y -ℤ s.hi.y) *ℤ x) → ((s.hi.x -ℤ s.lo.x) *ℤ v) ≤ℤ ((s.hi.x -ℤ s.lo.x) *ℤ y) → twice_turn s u v ≤ℤ twice_turn s x y
unfolding turn_of
turn_below s x y u v across up =
    by_le_two (s.lo.x ∷ s.lo.y ∷ s.hi.x ∷ s.hi.y ∷ x ∷ y ∷ u ∷ v ∷ []) (turn_term (Var 6) (Var 7)) (turn_term (Var 4) (Var 5))
    (Lit (pos 2)) ((Var 1 ⊖ Var 3) ⊗ Var 6) ((Var 1 ⊖ Var 3) ⊗ Var 4) (Lit (pos 2)) ((Var 2 ⊖ Var 0) ⊗ Var 7) ((Var 2 ⊖ Var 0) ⊗ Var 5)
    refl (pos_nonneg 2) across (pos_nonneg 2) up

-- and it does not get less where neither of the two opposite ones grows
turn_above : (s : Seg) (x y u v : ℤ) → ((s.hi.y -ℤ s.lo.y) *ℤ u) ≤ℤ ((s.hi.y -ℤ s.lo.y) *ℤ x) → ((s.lo.x -ℤ s.hi.x) *ℤ v) ≤ℤ ((s.lo.x -ℤ s.hi.x) *ℤ y) → twice_turn s x y ≤ℤ twice_turn s u v
unfolding turn_of
turn_above s x y u v across up =
    by_le_two (s.lo.x ∷ s.lo.y ∷ s.hi.x ∷ s.hi.y ∷ x ∷ y ∷ u ∷ v ∷ []) (turn_term (Var 4) (Var 5)) (turn_term (Var 6) (Var 7))
    (Lit (pos 2)) ((Var 3 ⊖ Var 1) ⊗ Var 6) ((Var 3 ⊖ Var 1) ⊗ Var 4) (Lit (pos 2)) ((Var 0 ⊖ Var 2) ⊗ Var 7) ((Var 0 ⊖ Var 2) ⊗ Var 5)
    refl (pos_nonneg 2) across (pos_nonneg 2) up

near_left-linear : (s : Seg) → IsLinear (s.hi.x -ℤ s.lo.x) (s.lo.y -ℤ s.hi.y) (is_near_left s)
near_left-linear s x y u v across up h =
    let m = pos (reach_of s) in
    (int_le_is (twice_turn s u v) m).1 (le_trans (turn_below s x y u v across up) ((int_le_is (twice_turn s x y) m).0 h))

near_right-linear : (s : Seg) → IsLinear (s.lo.x -ℤ s.hi.x) (s.hi.y -ℤ s.lo.y) (is_near_right s)
near_right-linear s x y u v across up h =
    let m = neg_ℤ (pos (reach_of s)) in
    (int_le_is m (twice_turn s u v)).1 (le_trans ((int_le_is m (twice_turn s x y)).0 h) (turn_above s x y u v across up))

pub near_line_upward : (s : Seg) (a b : Rect) → IsInside a b → is_near_line s a ≡ true → is_near_line s b ≡ true
near_line_upward s a b inside h =
    let parts = and_parts (has_corner (is_near_left s) a) (has_corner (is_near_right s) a) h in
    and_from (has_corner (is_near_left s) b) (has_corner (is_near_right s) b)
    (corner_upward (is_near_left s) _ _ a b (near_left-linear s) inside parts.0)
    (corner_upward (is_near_right s) _ _ a b (near_right-linear s) inside parts.1)

pixels_upward : (s : Seg) (a b : Rect) → IsInside a b → is_near_pixels s a ≡ true → is_near_pixels s b ≡ true
pixels_upward s a b inside h =
    let parts = and_parts (is_touching (box_of_segment s) a) (is_near_line s a) h in
    and_from (is_touching (box_of_segment s) b) (is_near_line s b) (touch_upward (box_of_segment s) a b inside parts.0) (near_line_upward s a b inside parts.1)

twice_le : (x y : ℤ) → x ≤ℤ y → (pos 2 *ℤ x) ≤ℤ (pos 2 *ℤ y)
twice_le x y h = mul_le (pos 2) (pos_nonneg 2) h

column_upward : (p : Coord) (a b : Rect) → IsInside a b → is_in_column p a ≡ true → is_in_column p b ≡ true
column_upward p a b inside h =
    let parts = and_parts (int_le (pos 2 *ℤ a.lo.x) p.x) (int_le p.x (pos 2 *ℤ a.hi.x)) h in
    and_from (int_le (pos 2 *ℤ b.lo.x) p.x) (int_le p.x (pos 2 *ℤ b.hi.x))
    ((int_le_is (pos 2 *ℤ b.lo.x) p.x).1 (le_trans (twice_le b.lo.x a.lo.x inside.left) ((int_le_is (pos 2 *ℤ a.lo.x) p.x).0 parts.0)))
    ((int_le_is p.x (pos 2 *ℤ b.hi.x)).1 (le_trans ((int_le_is p.x (pos 2 *ℤ a.hi.x)).0 parts.1) (twice_le a.hi.x b.hi.x inside.right)))

above_upward : (p : Coord) (a b : Rect) → IsInside a b → is_above_point p a ≡ true → is_above_point p b ≡ true
above_upward p a b inside h =
    let parts = and_parts (is_in_column p a) (int_lt p.y (pos 2 *ℤ a.hi.y)) h in
    and_from (is_in_column p b) (int_lt p.y (pos 2 *ℤ b.hi.y)) (column_upward p a b inside parts.0)
    ((int_lt_is p.y (pos 2 *ℤ b.hi.y)).1 (lt_le_trans ((int_lt_is p.y (pos 2 *ℤ a.hi.y)).0 parts.1) (twice_le a.hi.y b.hi.y inside.top)))

below_upward : (p : Coord) (a b : Rect) → IsInside a b → is_below_point p a ≡ true → is_below_point p b ≡ true
below_upward p a b inside h =
    let parts = and_parts (is_in_column p a) (int_le (pos 2 *ℤ a.lo.y) p.y) h in
    and_from (is_in_column p b) (int_le (pos 2 *ℤ b.lo.y) p.y) (column_upward p a b inside parts.0)
    ((int_le_is (pos 2 *ℤ b.lo.y) p.y).1 (le_trans (twice_le b.lo.y a.lo.y inside.bottom) ((int_le_is (pos 2 *ℤ a.lo.y) p.y).0 parts.1)))

-- a probe that reaches a box reaches each box about it
pub reaches_upward : (probe : Probe) → IsUpward (reaches probe)
reaches_upward (Box own) a b inside h = touch_upward own a b inside h
reaches_upward (Pixels s) a b inside h = pixels_upward s a b inside h
reaches_upward (Above p) a b inside h = above_upward p a b inside h
reaches_upward (Below p) a b inside h = below_upward p a b inside h
