-- The reach of a point of the half grid by the vectors of the code.
use mathlib.Core.List.{[], ◌∷◌}
use Rattle.std.proofs.Common.{◌≡◌, refl, sym, ◌∙◌, ap, subst, ℕ, ◌*◌, ◌/◌, ◌^◌, ◌≤◌, cond, ℤ, pos, ◌+ℤ◌, ◌-ℤ◌, ◌*ℤ◌, ◌≤ℤ◌, ◌<ℤ◌, int_le, unsigned_abs, FitsSigned, IsTrue, nat_le, ◌↔◌, arith}
use Rattle.std.proofs.Math.Nat.{div-le_of_le-mul, mul-le-mul_left}
use Rattle.std.proofs.lemmas.Bool.{leb-true, le-leb}
use Rattle.cov_types.specs.declared.coord.Coord.{Coord}
use Rattle.cov_types.specs.declared.seg.Seg.{Seg}
use mir.Syntax.{w64, w128}
use Rattle.integer_laws.proofs.Bound.{abs_within, within_sum, within_product}
use Rattle.integer_laws.proofs.Cast.{pos_mul, unsigned_abs_nonneg}
use Rattle.integer_laws.proofs.Compare.{int_le_is, int_le_false}
use Rattle.integer_laws.proofs.Ring.{lin, by_ring, Var, Lit, ◌⊕◌, ◌⊖◌, ◌⊗◌}
use Rattle.integer_laws.proofs.Sign.{square_nonneg}
use Rattle.distance_laws.specs.Room.{HasRoom, doubled, squared_to, squared_length, foot, half_side, reach}
use Rattle.distance_laws.proofs.Reach.{doubled_room, reach_is}
use Rattle.grid_pred.specs.declared.ray.Vector.{Vector}
use Rattle.grid_pred.specs.Ray.{IsSmallVector}
use Rattle.grid_pred.proofs.Small.{read, read_is}

-- v leads from twice a to c
pub record LeadsFrom (a c : Coord) (v : Vector) : Type 0 where
  pub x : v.x ≡ c.x -ℤ (pos 2 *ℤ a.x)
  pub y : v.y ≡ c.y -ℤ (pos 2 *ℤ a.y)

-- as the code computes it: p is c with the denominator 2
pub leads_from : (a c : Coord) (v : Vector) (px py d : ℤ) → px ≡ c.x → py ≡ c.y → d ≡ pos 2 → v.x ≡ px -ℤ (a.x *ℤ d) → v.y ≡ py -ℤ (a.y *ℤ d) → LeadsFrom a c v
leads_from a c v px py d is_x is_y is_d vx vy = record {
  x = vx ∙ (λ i. is_x i -ℤ (a.x *ℤ is_d i)) ∙ by_ring (c.x ∷ a.x ∷ []) (Var 0 ⊖ Var 1 ⊗ Lit (pos 2)) (Var 0 ⊖ Lit (pos 2) ⊗ Var 1) refl;
  y = vy ∙ (λ i. is_y i -ℤ (a.y *ℤ is_d i)) ∙ by_ring (c.y ∷ a.y ∷ []) (Var 0 ⊖ Var 1 ⊗ Lit (pos 2)) (Var 0 ⊖ Lit (pos 2) ⊗ Var 1) refl;
}

-- the squared length of such a vector
pub squared_by : (a c : Coord) (v : Vector) (n : ℕ) → LeadsFrom a c v → n ≡ unsigned_abs ((v.x *ℤ v.x) +ℤ (v.y *ℤ v.y)) → n ≡ unsigned_abs (squared_to c a)
unfolding squared_to
squared_by a c v n l h = h ∙ (λ i. unsigned_abs ((l.x i *ℤ l.x i) +ℤ (l.y i *ℤ l.y i)))

-- the squared length of an edge is not negative
pub length_nonneg : (e : Seg) → pos 0 ≤ℤ squared_length e
unfolding squared_length
length_nonneg e = let x = square_nonneg (e.hi.x -ℤ e.lo.x) in let y = square_nonneg (e.hi.y -ℤ e.lo.y) in omega (arith, lin)

-- the vector's squared length is that of the point to the end
pub square_read : (a c : Coord) (v : Vector) (n : ℕ) → LeadsFrom a c v → n ≡ unsigned_abs ((v.x *ℤ v.x) +ℤ (v.y *ℤ v.y)) → pos n ≡ squared_to c a
unfolding squared_to
square_read a c v n l h =
    let x = square_nonneg v.x in
    let y = square_nonneg v.y in
    ap pos h ∙ unsigned_abs_nonneg ((v.x *ℤ v.x) +ℤ (v.y *ℤ v.y)) (omega (arith, lin)) ∙ (λ i. (l.x i *ℤ l.x i) +ℤ (l.y i *ℤ l.y i))

module _ (c : Coord) (e : Seg) where
  -- the cases of the reach
  pub reach_of_lo : (n : ℕ) → foot c e ≤ℤ pos 0 → n ≡ unsigned_abs (squared_to c e.lo) → n ≡ reach c e
  reach_of_lo n before is = is ∙ (λ i. cond (sym ((int_le_is (foot c e) (pos 0)).1 before) i) (unsigned_abs (squared_to c e.lo)) rest)
    where
      rest : ℕ
      rest = cond (int_le (pos 2 *ℤ squared_length e) (foot c e)) (unsigned_abs (squared_to c e.hi)) (unsigned_abs (half_side c e *ℤ half_side c e) / unsigned_abs (squared_length e))

  pub reach_of_hi : (n : ℕ) → pos 0 <ℤ foot c e → (pos 2 *ℤ squared_length e) ≤ℤ foot c e → n ≡ unsigned_abs (squared_to c e.hi) → n ≡ reach c e
  reach_of_hi n after past is =
      is
      ∙ (λ i. cond (sym ((int_le_false (foot c e) (pos 0)).1 after) i) (unsigned_abs (squared_to c e.lo))
      (cond (sym ((int_le_is (pos 2 *ℤ squared_length e) (foot c e)).1 past) i) (unsigned_abs (squared_to c e.hi)) (unsigned_abs (half_side c e *ℤ half_side c e) / unsigned_abs (squared_length e))))

  pub reach_of_line : (n : ℕ) → pos 0 <ℤ foot c e → foot c e <ℤ (pos 2 *ℤ squared_length e) → n ≡ unsigned_abs (half_side c e *ℤ half_side c e) / unsigned_abs (squared_length e) → n ≡ reach c e
  reach_of_line n after before is =
      is
      ∙ (λ i. cond (sym ((int_le_false (foot c e) (pos 0)).1 after) i) (unsigned_abs (squared_to c e.lo))
      (cond (sym ((int_le_false (pos 2 *ℤ squared_length e) (foot c e)).1 before) i) (unsigned_abs (squared_to c e.hi)) (unsigned_abs (half_side c e *ℤ half_side c e) / unsigned_abs (squared_length e))))

  -- the square of the side is not past the squares of the edge and of v
  side_bound : (half_side c e *ℤ half_side c e) ≤ℤ (squared_length e *ℤ squared_to c e.lo)
  unfolding half_side squared_length squared_to
  side_bound =
      let a = e.hi.x -ℤ e.lo.x in
      let b = e.hi.y -ℤ e.lo.y in
      let x = c.x -ℤ (pos 2 *ℤ e.lo.x) in
      let y = c.y -ℤ (pos 2 *ℤ e.lo.y) in
      let is = by_ring (a ∷ b ∷ x ∷ y ∷ [])
      ((Var 0 ⊗ Var 0 ⊕ Var 1 ⊗ Var 1) ⊗ (Var 2 ⊗ Var 2 ⊕ Var 3 ⊗ Var 3))
      ((Var 0 ⊗ Var 3 ⊖ Var 1 ⊗ Var 2) ⊗ (Var 0 ⊗ Var 3 ⊖ Var 1 ⊗ Var 2) ⊕ (Var 0 ⊗ Var 2 ⊕ Var 1 ⊗ Var 3) ⊗ (Var 0 ⊗ Var 2 ⊕ Var 1 ⊗ Var 3)) refl in
      let square = square_nonneg ((a *ℤ x) +ℤ (b *ℤ y)) in
      omega (arith, lin)

  pub line_is_small : (q n : ℕ) → pos q ≡ squared_to c e.lo → q ≤ n → unsigned_abs (half_side c e *ℤ half_side c e) / unsigned_abs (squared_length e) ≤ n
  line_is_small q n is small = div-le_of_le-mul long below
    where
      long : ℕ
      long = unsigned_abs (squared_length e)

      off : ℕ
      off = unsigned_abs (half_side c e *ℤ half_side c e)

      below : off ≤ long * n
      below =
          let times : pos (long * q) ≡ squared_length e *ℤ squared_to c e.lo = pos_mul long q ∙ (λ i. unsigned_abs_nonneg (squared_length e) (length_nonneg e) i *ℤ is i) in
          let off_is : pos off ≡ half_side c e *ℤ half_side c e = unsigned_abs_nonneg (half_side c e *ℤ half_side c e) (square_nonneg (half_side c e)) in
          let bound = side_bound in
          let more = mul-le-mul_left long small in
          omega (arith, lin)

  -- u leads from lo to hi, and v from twice lo to c
  module _ (u v : Vector) (ux : u.x ≡ e.hi.x -ℤ e.lo.x) (uy : u.y ≡ e.hi.y -ℤ e.lo.y) (l : LeadsFrom e.lo c v) where
    pub foot_by : (f : ℤ) → f ≡ (u.x *ℤ v.x) +ℤ (u.y *ℤ v.y) → f ≡ foot c e
    unfolding foot
    foot_by f h = h ∙ (λ i. (ux i *ℤ l.x i) +ℤ (uy i *ℤ l.y i))

  pub length_by : (u : Vector) → u.x ≡ e.hi.x -ℤ e.lo.x → u.y ≡ e.hi.y -ℤ e.lo.y → (n : ℕ) → n ≡ unsigned_abs ((u.x *ℤ u.x) +ℤ (u.y *ℤ u.y)) → n ≡ unsigned_abs (squared_length e)
  unfolding squared_length
  length_by u ux uy n h = h ∙ (λ i. unsigned_abs ((ux i *ℤ ux i) +ℤ (uy i *ℤ uy i)))

  module _ (v : Vector) (l : LeadsFrom e.lo c v) where
    pub side_by : (s : ℤ) → s ≡ ((e.hi.x -ℤ e.lo.x) *ℤ v.y) -ℤ ((e.hi.y -ℤ e.lo.y) *ℤ v.x) → s ≡ half_side c e
    unfolding half_side
    side_by s h = h ∙ (λ i. ((e.hi.x -ℤ e.lo.x) *ℤ l.y i) -ℤ ((e.hi.y -ℤ e.lo.y) *ℤ l.x i))

    pub line_within : IsSmallVector v → unsigned_abs (half_side c e *ℤ half_side c e) / unsigned_abs (squared_length e) ≤ 2 ^ 61
    line_within small =
        line_is_small (unsigned_abs ((v.x *ℤ v.x) +ℤ (v.y *ℤ v.y))) (2 ^ 61) (square_read e.lo c v _ l refl)
        (abs_within (within_sum (within_product small.x small.x) (within_product small.y small.y)))

-- the square of the side, as the code computes it
pub square_by : (s w z : ℤ) (n : ℕ) → FitsSigned w64 s → FitsSigned w128 w → s ≡ z → w ≡ read w64 s *ℤ read w64 s → n ≡ unsigned_abs (read w128 w) → n ≡ unsigned_abs (z *ℤ z)
square_by s w z n fits wide is square abs =
    let read_s = read_is w64 s z fits is in
    abs ∙ ap unsigned_abs (read_is w128 w _ wide square) ∙ (λ i. unsigned_abs (read_s i *ℤ read_s i))

pub twice_length : (n : ℕ) (e : Seg) → n ≡ unsigned_abs (squared_length e) → pos (2 * n) ≡ pos 2 *ℤ squared_length e
twice_length n e is = pos_mul 2 n ∙ ap (λ z. pos 2 *ℤ z) (ap pos is ∙ unsigned_abs_nonneg (squared_length e) (length_nonneg e))

-- the test of room by the reach
pub room_told : (q : Coord) (s : Seg) (w n : ℕ) → n ≡ reach (doubled q) s → IsTrue (nat_le (w * w) n) ↔ HasRoom q w s
room_told q s w n is =
    let at = reach_is (doubled q) w s in
    let grid = doubled_room q w s in (
      λ h. grid.1 (at.1 (subst (λ m. w * w ≤ m) is (leb-true (w * w) n h))),
      λ room. subst (λ m. IsTrue (nat_le (w * w) m)) (sym is) (le-leb (w * w) (reach (doubled q) s) (at.0 (grid.0 room))),
    )
