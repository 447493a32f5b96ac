-- How large the numbers of the predicates are, for coordinates in range.
use mathlib.Core.List.{[], ◌∷◌}
use Rattle.std.proofs.Common.{sym, subst, ◌^◌, pos, neg_ℤ, ◌+ℤ◌, ◌-ℤ◌, ◌*ℤ◌, lit≤, arith}
use borrow.Author.Differences.{product_is}
use Rattle.integer_laws.proofs.Ring.{lin, Term, Var, Lit, ◌⊕◌, ◌⊖◌, ◌⊗◌}
use Rattle.integer_laws.proofs.Bound.{IsWithin, by_bound, within_more, within_pos, within_sum, within_difference, within_product}
use Rattle.cov_types.specs.declared.coord.TheConstants.{LIMIT}
use Rattle.cov_types.specs.declared.coord.Coord.{Coord}
use Rattle.cov_types.specs.declared.seg.Seg.{Seg}
use Rattle.cov_types.specs.Range.{IsInRange, IsSegInRange}
use Rattle.plane.specs.Point.{at_coord}
use Rattle.plane.specs.Segment.{turn_of, side}
use Rattle.plane.specs.Ray.{sweep}
use Rattle.plane.specs.Below.{sweep_rise}
use Rattle.plane.proofs.Sides.{side-at_coord}
use Rattle.grid_pred.specs.declared.cross.Cross.{Cross}
use Rattle.grid_pred.specs.Crossing.{IsCrossInRange}
use Rattle.grid_pred.specs.Sizes.{IsCrossSmall}

pub x_within : (c : Coord) → IsInRange c → IsWithin (2 ^ 28) c.x
x_within c h = let left = h.left in let right = h.right in record { low = omega (arith, lin); high = omega (arith, lin) }

pub y_within : (c : Coord) → IsInRange c → IsWithin (2 ^ 28) c.y
y_within c h = let bottom = h.bottom in let top = h.top in record { low = omega (arith, lin); high = omega (arith, lin) }

-- a turn
abbrev turn_term : Term
turn_term = (Var 2 ⊖ Var 0) ⊗ (Var 5 ⊖ Var 1) ⊖ (Var 3 ⊖ Var 1) ⊗ (Var 4 ⊖ Var 0)

pub turn_within : (a b c : Coord) → IsInRange a → IsInRange b → IsInRange c → IsWithin (2 ^ 59) (turn_of a b c)
unfolding turn_of
turn_within a b c ra rb rc =
    by_bound (2 ^ 28 ∷ 2 ^ 28 ∷ 2 ^ 28 ∷ 2 ^ 28 ∷ 2 ^ 28 ∷ 2 ^ 28 ∷ []) (a.x ∷ a.y ∷ b.x ∷ b.y ∷ c.x ∷ c.y ∷ []) turn_term
    (x_within a ra, (y_within a ra, (x_within b rb, (y_within b rb, (x_within c rc, (y_within c rc, tt))))))

pub side_within : (s : Seg) (p : Coord) → IsSegInRange s → IsInRange p → IsWithin (2 ^ 59) (side s (at_coord p))
side_within s p rs rp = subst (IsWithin (2 ^ 59)) (sym (side-at_coord s p)) (turn_within s.lo s.hi p rs.lo rs.hi rp)

-- how much the sweep value grows along a segment
pub rise_within : (s : Seg) → IsSegInRange s → IsWithin (2 ^ 60) (sweep_rise s)
unfolding sweep
rise_within s r =
    let x = x_within s.lo r.lo in
    let y = y_within s.lo r.lo in
    let to_x = x_within s.hi r.hi in
    let to_y = y_within s.hi r.hi in
    within_more (lit≤ tt) (by_bound (2 ^ 28 ∷ 2 ^ 28 ∷ 2 ^ 28 ∷ 2 ^ 28 ∷ []) (s.lo.x ∷ s.lo.y ∷ s.hi.x ∷ s.hi.y ∷ [])
    ((Lit (pos (2 ^ 30)) ⊗ Var 2 ⊕ Var 3) ⊖ (Lit (pos (2 ^ 30)) ⊗ Var 0 ⊕ Var 1)) (x, (y, (to_x, (to_y, tt)))))

pub square_within : (a b c : Coord) → IsInRange a → IsInRange b → IsInRange c → IsWithin (2 ^ 120) (pos 4 *ℤ (turn_of a b c *ℤ turn_of a b c))
square_within a b c ra rb rc =
    let turn = turn_within a b c ra rb rc in
    within_product (within_pos 4) (within_product turn turn)

pub depth_within : (e f : Seg) (v : Coord) → IsSegInRange e → IsSegInRange f → IsInRange v → IsWithin (2 ^ 119) (side e (at_coord v) *ℤ sweep_rise f)
depth_within e f v re rf rv = within_product (side_within e v re rv) (rise_within f rf)

pub cross_within : (c : Cross) → IsCrossInRange c → IsCrossSmall c
cross_within c h =
    let positive = c.positive in
    let small = h.small in
    let scaled = product_is LIMIT c.den in
    let negated = product_is (neg_ℤ LIMIT) c.den in
    record {
      x = omega (arith, lin, scaled, negated, h.left, h.right);
      y = omega (arith, lin, scaled, negated, h.bottom, h.top);
      d = omega (arith, lin);
    }

pub length_within : (s : Seg) → IsSegInRange s → IsWithin (2 ^ 59) (((s.hi.x -ℤ s.lo.x) *ℤ (s.hi.x -ℤ s.lo.x)) +ℤ ((s.hi.y -ℤ s.lo.y) *ℤ (s.hi.y -ℤ s.lo.y)))
length_within s r =
    let dx = within_difference (x_within s.hi r.hi) (x_within s.lo r.lo) in
    let dy = within_difference (y_within s.hi r.hi) (y_within s.lo r.lo) in
    within_sum (within_product dx dx) (within_product dy dy)
