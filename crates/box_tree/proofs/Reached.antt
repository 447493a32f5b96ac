-- What probes reach: the edges over a midpoint, and the centres of the pixels that a segment meets.
use mathlib.Core.List.{[], ◌∷◌}
use Rattle.std.proofs.Common.{◌≡◌, refl, sym, inl, inr, ℤ, pos, neg_ℤ, ◌^◌, ◌+ℤ◌, ◌-ℤ◌, ◌*ℤ◌, ◌<ℤ◌, ◌≤ℤ◌, int_le, int_lt, true, ◌&&◌, arith}
use Rattle.std.proofs.lemmas.Bool.{and_from}
use Rattle.integer_laws.proofs.Ring.{lin, mul_comm, pos_times, Var, Lit, ◌⊕◌, ◌⊗◌}
use Rattle.integer_laws.proofs.Cast.{unsigned_abs_nonneg, unsigned_abs_negative, pos_nonneg}
use Rattle.integer_laws.proofs.Compare.{int_le_is, int_lt_is, le_trans, le_of_lt, le_of_eq}
use Rattle.integer_laws.proofs.Order.{cancel_lt_right, mul_le, by_lt_two, by_lt_eq}
use Rattle.cov_types.proofs.Order.{cases_before}
use Rattle.cov_types.specs.Range.{IsSegInRange}
use Rattle.cov_types.specs.declared.coord.Coord.{Coord}
use Rattle.cov_types.specs.declared.seg.Seg.{Seg}
use Rattle.plane.specs.Point.{at_coord}
use Rattle.plane.specs.Ray.{is_over, sweep}
use Rattle.plane.specs.Segment.{midpoint, turn_of}
use Rattle.plane.proofs.Over.{over-is, over-meets_ray}
use Rattle.plane.proofs.Points.{d_positive}
use Rattle.plane.proofs.Sweeps.{rises-in_range}
use Rattle.box_tree.proofs.CommonPoint.{in_box-on, least_first, least_second, greatest_first, greatest_second}
use Rattle.box_tree.proofs.Corners.{corner_lower_left}
use Rattle.box_tree.proofs.Touching.{is_touching-is}
use Rattle.box_tree.specs.Probe.{reaches, is_near_left, is_near_right, is_near_line, has_corner, reach_of, twice_turn}
use Rattle.box_tree.specs.Rect.{IsInside, is_touching, box_of_point, box_of_segment}
use Rattle.box_tree.specs.declared.probe.Probe.TheVariants.{Pixels, Above}

-- twice the midpoint of a segment
abbrev pub twice_middle : Seg → Coord
twice_middle s = record { x = s.lo.x +ℤ s.hi.x; y = s.lo.y +ℤ s.hi.y }

-- ---- over plain variables: r/e is beyond p/d on the ray

-- the ray goes to the left: p is to the right of each column that r is not left of
right_of_box : (low rx e px d : ℤ) → pos 0 <ℤ e → pos 0 ≤ℤ d → (low *ℤ e) ≤ℤ rx → (rx *ℤ d) <ℤ (px *ℤ e) → (low *ℤ d) <ℤ px
right_of_box low rx e px d he hd from beyond =
    cancel_lt_right e (low *ℤ d) px (le_of_lt he)
    (by_lt_two (low ∷ rx ∷ e ∷ px ∷ d ∷ []) (Var 0 ⊗ Var 4 ⊗ Var 2) (Var 3 ⊗ Var 2) (Lit (pos 1)) (Var 1 ⊗ Var 4) (Var 3 ⊗ Var 2) (Var 4) (Var 0 ⊗ Var 2) (Var 1)
    refl (omega (arith, lin)) beyond hd from)

-- and up: p is below each row that r is not above
below_box : (top rx ry e px py d : ℤ) → pos 0 <ℤ e → pos 0 ≤ℤ d → ry ≤ℤ (top *ℤ e) → (rx *ℤ d) <ℤ (px *ℤ e)
    → ((pos (2 ^ 30) *ℤ rx) +ℤ ry) *ℤ d ≡ ((pos (2 ^ 30) *ℤ px) +ℤ py) *ℤ e → py <ℤ (top *ℤ d)
below_box top rx ry e px py d he hd to beyond line =
    let climb : (py *ℤ e) <ℤ (ry *ℤ d) =
    by_lt_eq (rx ∷ ry ∷ e ∷ px ∷ py ∷ d ∷ []) (Var 4 ⊗ Var 2) (Var 1 ⊗ Var 5) (Lit (pos (2 ^ 30))) (Var 0 ⊗ Var 5) (Var 3 ⊗ Var 2)
    (Lit (pos 1)) ((Lit (pos (2 ^ 30)) ⊗ Var 3 ⊕ Var 4) ⊗ Var 2) ((Lit (pos (2 ^ 30)) ⊗ Var 0 ⊕ Var 1) ⊗ Var 5)
    refl (omega (arith, lin)) beyond (sym line) in
    cancel_lt_right e py (top *ℤ d) (le_of_lt he)
    (by_lt_two (top ∷ ry ∷ e ∷ py ∷ d ∷ []) (Var 3 ⊗ Var 2) (Var 0 ⊗ Var 4 ⊗ Var 2) (Lit (pos 1)) (Var 3 ⊗ Var 2) (Var 1 ⊗ Var 4) (Var 4) (Var 1) (Var 0 ⊗ Var 2)
    refl (omega (arith, lin)) climb hd to)

-- twice w is at least u, where 2^30·u + py is less than twice 2^30·w + hy and the others are small
least_step : (u w py hy : ℤ) → ((pos (2 ^ 30) *ℤ u) +ℤ py) <ℤ (((pos (2 ^ 30) *ℤ w) +ℤ hy) *ℤ pos 2) → hy ≤ℤ pos (2 ^ 28) → neg_ℤ (pos (2 ^ 29)) ≤ℤ py → u ≤ℤ (pos 2 *ℤ w)
least_step u w py hy h top low =
    let t = (pos (2 ^ 30) *ℤ w) +ℤ hy in
    let turned = mul_comm t (pos 2) in
    omega (arith, lin, pos_times (2 ^ 30) u, pos_times (2 ^ 30) w, pos_times 2 w, pos_times 2 t)

-- ---- edges over a midpoint

-- in range the ray moves by half a unit at most, so that twice the point is not to the right of twice the greater end
left_of_end : (e s : Seg) → IsSegInRange e → IsSegInRange s → sweep (midpoint s) <ℤ (sweep (at_coord e.hi) *ℤ pos 2) → (s.lo.x +ℤ s.hi.x) ≤ℤ (pos 2 *ℤ e.hi.x)
unfolding sweep
left_of_end e s he hs h =
    let low = hs.lo.bottom in
    let low_too = hs.hi.bottom in
    least_step (s.lo.x +ℤ s.hi.x) e.hi.x (s.lo.y +ℤ s.hi.y) e.hi.y h he.hi.top (omega (arith, lin))

twice_first : (k x : ℤ) → (k *ℤ pos 2) <ℤ x → (pos 2 *ℤ k) <ℤ x
twice_first k x h = let turned = mul_comm k (pos 2) in omega (arith, lin)

twice_second : (k x : ℤ) → x <ℤ (k *ℤ pos 2) → x <ℤ (pos 2 *ℤ k)
twice_second k x h = let turned = mul_comm k (pos 2) in omega (arith, lin)

-- an edge over the midpoint of a segment has a box above it
pub over_reached : (e s : Seg) → IsSegInRange e → IsSegInRange s → is_over e (midpoint s) ≡ true → reaches (Above (twice_middle s)) (box_of_segment e) ≡ true
unfolding sweep
over_reached e s he hs over =
    let p = midpoint s in
    let b = box_of_segment e in
    let meets = (over-meets_ray e p (rises-in_range e he)).0 over in
    let r = meets.at in
    let at = in_box-on e r meets.on_edge in
    let right = right_of_box b.lo.x r.x (pos r.d) p.x (pos 2) (d_positive r) (omega (arith, lin)) at.left meets.beyond.further in
    let left = left_of_end e s he hs ((over-is e p).0 over).to in
    let below = below_box b.hi.y r.x r.y (pos r.d) p.x p.y (pos 2) (d_positive r) (omega (arith, lin)) at.top meets.beyond.further meets.beyond.on_line in
    and_from (int_le (pos 2 *ℤ b.lo.x) p.x && int_le p.x (pos 2 *ℤ b.hi.x)) (int_lt p.y (pos 2 *ℤ b.hi.y))
    (and_from (int_le (pos 2 *ℤ b.lo.x) p.x) (int_le p.x (pos 2 *ℤ b.hi.x))
    ((int_le_is (pos 2 *ℤ b.lo.x) p.x).1 (le_of_lt (twice_first b.lo.x p.x right)))
    ((int_le_is p.x (pos 2 *ℤ b.hi.x)).1 (le_trans left (mul_le (pos 2) (pos_nonneg 2) (greatest_second e.lo.x e.hi.x)))))
    ((int_lt_is p.y (pos 2 *ℤ b.hi.y)).1 (twice_second b.hi.y p.y below))

-- ---- the centres of the pixels that a segment meets

-- from the lesser end to the greater, a segment does not go to the left
pub ordered_x : (s : Seg) → s.lo.x ≤ℤ s.hi.x
ordered_x s = elim (cases_before s.lo s.hi s.ordered) [ inl h ↦ le_of_lt h | inr h ↦ le_of_eq h.0 ]

-- the reach of a segment that does not go down, and of one that does not go up
pub reach_of-up : (s : Seg) → s.lo.y ≤ℤ s.hi.y → pos (reach_of s) ≡ (s.hi.x -ℤ s.lo.x) +ℤ (s.hi.y -ℤ s.lo.y)
reach_of-up s up =
    let right = ordered_x s in
    let width = unsigned_abs_nonneg (s.hi.x -ℤ s.lo.x) (omega (arith, lin)) in
    let height = unsigned_abs_nonneg (s.hi.y -ℤ s.lo.y) (omega (arith, lin)) in
    omega (arith, lin)

pub reach_of-down : (s : Seg) → s.hi.y ≤ℤ s.lo.y → pos (reach_of s) ≡ (s.hi.x -ℤ s.lo.x) +ℤ (s.lo.y -ℤ s.hi.y)
reach_of-down s down =
    let right = ordered_x s in
    let width = unsigned_abs_nonneg (s.hi.x -ℤ s.lo.x) (omega (arith, lin)) in
    let height = unsigned_abs_negative (s.hi.y -ℤ s.lo.y) (omega (arith, lin)) in
    omega (arith, lin)

-- a point within the box of a segment, whose turn is at most the reach on either side, is reached
pub pixel_reached : (s : Seg) (r : Coord) → IsInside (box_of_point r) (box_of_segment s)
    → neg_ℤ (pos (reach_of s)) ≤ℤ (pos 2 *ℤ turn_of s.lo s.hi r) → (pos 2 *ℤ turn_of s.lo s.hi r) ≤ℤ pos (reach_of s) → reaches (Pixels s) (box_of_point r) ≡ true
pixel_reached s r inside right left =
    let b = box_of_point r in
    let touch = (is_touching-is (box_of_segment s) b).1 (record { left = inside.left; right = inside.right; below = inside.bottom; above = inside.top }) in
    and_from (is_touching (box_of_segment s) b) (is_near_line s b) touch
    (and_from (has_corner (is_near_left s) b) (has_corner (is_near_right s) b)
    (corner_lower_left (is_near_left s) b ((int_le_is (twice_turn s r.x r.y) (pos (reach_of s))).1 left))
    (corner_lower_left (is_near_right s) b ((int_le_is (neg_ℤ (pos (reach_of s))) (twice_turn s r.x r.y)).1 right)))

-- a point between the ends of a segment in x and in y is within its box
pub inside_up : (s : Seg) (r : Coord) → s.lo.x ≤ℤ r.x → r.x ≤ℤ s.hi.x → s.lo.y ≤ℤ r.y → r.y ≤ℤ s.hi.y → IsInside (box_of_point r) (box_of_segment s)
inside_up s r from to up high =
    record {
      left = le_trans (least_first s.lo.x s.hi.x) from;
      right = le_trans to (greatest_second s.lo.x s.hi.x);
      bottom = le_trans (least_first s.lo.y s.hi.y) up;
      top = le_trans high (greatest_second s.lo.y s.hi.y);
    }

pub inside_down : (s : Seg) (r : Coord) → s.lo.x ≤ℤ r.x → r.x ≤ℤ s.hi.x → r.y ≤ℤ s.lo.y → s.hi.y ≤ℤ r.y → IsInside (box_of_point r) (box_of_segment s)
inside_down s r from to down low =
    record {
      left = le_trans (least_first s.lo.x s.hi.x) from;
      right = le_trans to (greatest_second s.lo.x s.hi.x);
      bottom = le_trans (least_second s.lo.y s.hi.y) low;
      top = le_trans down (greatest_first s.lo.y s.hi.y);
    }
