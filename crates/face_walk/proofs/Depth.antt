-- The columns and the rows of an edge under a point, and how far down the ray meets it.
use mathlib.Core.List.{[], ◌∷◌}
use Rattle.std.proofs.Common.{◌≡◌, refl, sym, ◌∙◌, ap, subst, ℕ, ◌+◌, ◌*◌, ◌/◌, ◌<◌, ◌≤◌, ◌^◌, unsigned_abs, ℤ, pos, neg_ℤ, ◌+ℤ◌, ◌-ℤ◌, ◌*ℤ◌, ◌<ℤ◌, ◌≤ℤ◌, IsTrue, inl, arith, lit<, lit≤}
use mir.Syntax.{w64}
use Rattle.grid_pred.proofs.Small.{read, read_within}
use Rattle.integer_laws.proofs.Bound.{IsWithin, within_more}
use Rattle.integer_laws.proofs.Cast.{pos_le, pos_lt, unsigned_abs_nonneg}
use Rattle.integer_laws.proofs.Compare.{le_of_lt}
use Rattle.integer_laws.proofs.Order.{by_le_two, by_lt_two, cancel_lt, cancel_le_right}
use Rattle.integer_laws.proofs.Ring.{lin, mul_one, zero_mul, pos_times, Term, Var, Lit, ◌⊕◌, ◌⊖◌, ◌⊗◌}
use Rattle.integer_laws.proofs.Sign.{positive_times_positive}
use Rattle.cov_types.specs.declared.coord.Coord.{Coord}
use Rattle.cov_types.specs.declared.seg.Seg.{Seg}
use Rattle.cov_types.specs.Range.{IsInRange, IsSegInRange}
use Rattle.plane.specs.Point.{at_coord}
use Rattle.plane.specs.Ray.{sweep}
use Rattle.plane.specs.Segment.{side}
use Rattle.plane.proofs.Sweeps.{rises-in_range}
use Rattle.region_laws.specs.Below.{is_under, sweep_rise, IsNearer}
use Rattle.region_laws.proofs.Edge.{under-is}
use Rattle.face_walk.specs.Boxes.{IsRowsDown}

-- ---- over plain variables: the ends (0, 1) and (2, 3) of an edge, a point (4, 5) and a row 6

abbrev sweep_term : Term → Term → Term
sweep_term x y = Lit (pos (2 ^ 30)) ⊗ x ⊕ y

abbrev from_lo : Term
from_lo = sweep_term (Var 4) (Var 5) ⊖ sweep_term (Var 0) (Var 1)

abbrev to_hi : Term
to_hi = sweep_term (Var 2) (Var 3) ⊖ sweep_term (Var 4) (Var 5)

abbrev rise_term : Term
rise_term = sweep_term (Var 2) (Var 3) ⊖ sweep_term (Var 0) (Var 1)

abbrev side_term : Term
side_term = (Var 2 ⊖ Var 0) ⊗ (Var 5 ⊖ Var 1 ⊗ Lit (pos 1)) ⊖ (Var 3 ⊖ Var 1) ⊗ (Var 4 ⊖ Var 0 ⊗ Lit (pos 1))

-- 2^30 · side = (row of p - row of lo) · (sweep of hi - sweep of p) + (row of p - row of hi) · (sweep of p - sweep of lo)
module _ (e : Seg) (v : Coord) (under : IsTrue (is_under e (at_coord v))) where
  sweeps_from : sweep (at_coord e.lo) ≤ℤ sweep (at_coord v)
  sweeps_from = let h = ((under-is e (at_coord v)).0 under).from in omega (arith, lin, mul_one (sweep (at_coord e.lo)))

  sweeps_to : sweep (at_coord v) <ℤ sweep (at_coord e.hi)
  sweeps_to = let h = ((under-is e (at_coord v)).0 under).to in omega (arith, lin, mul_one (sweep (at_coord e.hi)))

  -- an edge that is not above the row is met no higher
  pub no_higher : (row : ℤ) → e.lo.y ≤ℤ row → e.hi.y ≤ℤ row → ((v.y -ℤ row) *ℤ sweep_rise e) ≤ℤ (pos (2 ^ 30) *ℤ side e (at_coord v))
  unfolding sweep side
  no_higher row low high =
      let from = sweeps_from in
      let to = sweeps_to in
      by_le_two (e.lo.x ∷ e.lo.y ∷ e.hi.x ∷ e.hi.y ∷ v.x ∷ v.y ∷ row ∷ []) ((Var 5 ⊖ Var 6) ⊗ rise_term) (Lit (pos (2 ^ 30)) ⊗ side_term)
      to_hi (Var 1) (Var 6) from_lo (Var 3) (Var 6) refl (omega (arith, lin)) low (omega (arith, lin)) high

  -- and one that is not below it no lower
  pub no_lower : (row : ℤ) → row ≤ℤ e.lo.y → row ≤ℤ e.hi.y → (pos (2 ^ 30) *ℤ side e (at_coord v)) ≤ℤ ((v.y -ℤ row) *ℤ sweep_rise e)
  unfolding sweep side
  no_lower row low high =
      let from = sweeps_from in
      let to = sweeps_to in
      by_le_two (e.lo.x ∷ e.lo.y ∷ e.hi.x ∷ e.hi.y ∷ v.x ∷ v.y ∷ row ∷ []) (Lit (pos (2 ^ 30)) ⊗ side_term) ((Var 5 ⊖ Var 6) ⊗ rise_term)
      to_hi (Var 6) (Var 1) from_lo (Var 6) (Var 3) refl (omega (arith, lin)) low (omega (arith, lin)) high

  above_it : pos 0 <ℤ (pos (2 ^ 30) *ℤ side e (at_coord v))
  above_it = positive_times_positive {x = pos (2 ^ 30)} {y = side e (at_coord v)} (omega (arith, lin)) ((under-is e (at_coord v)).0 under).above

  -- an edge under a point has a part strictly below its row
  pub under_row : v.y ≤ℤ e.lo.y → v.y ≤ℤ e.hi.y → ⊥
  under_row low high =
      let no_way = no_lower v.y low high in
      let above = above_it in
      let none : (v.y -ℤ v.y) *ℤ sweep_rise e ≡ pos 0 = (λ i. nothing v.y i *ℤ sweep_rise e) ∙ zero_mul (sweep_rise e) in
      omega (arith, lin)
    where
      nothing : (x : ℤ) → x -ℤ x ≡ pos 0
      nothing x = omega (arith, lin)

-- 2^30·a + b is at most 2^30·c + d, and b and d are small
no_further : (a b c d : ℤ) → ((pos (2 ^ 30) *ℤ a) +ℤ b) ≤ℤ ((pos (2 ^ 30) *ℤ c) +ℤ d) → neg_ℤ (pos (2 ^ 28)) ≤ℤ b → d ≤ℤ pos (2 ^ 28) → a ≤ℤ c
no_further a b c d h low top = omega (arith, lin, pos_times (2 ^ 30) a, pos_times (2 ^ 30) c)

module _ (e : Seg) (v : Coord) (re : IsSegInRange e) (rv : IsInRange v) (under : IsTrue (is_under e (at_coord v))) where
  -- an edge under a point has a part in its column
  pub under_from : e.lo.x ≤ℤ v.x
  unfolding sweep
  under_from = no_further e.lo.x e.lo.y v.x v.y (sweeps_from e v under) re.lo.bottom rv.top

  pub under_to : v.x ≤ℤ e.hi.x
  unfolding sweep
  under_to = no_further v.x v.y e.hi.x e.hi.y (le_of_lt (sweeps_to e v under)) rv.bottom re.hi.top

  pub rise_positive : pos 0 <ℤ sweep_rise e
  rise_positive = let up = rises-in_range e re in omega (arith, lin)

  -- it is met in range
  pub rows_few : (rows : ℤ) → (rows *ℤ sweep_rise e) ≤ℤ (pos (2 ^ 30) *ℤ side e (at_coord v)) → rows ≤ℤ pos (2 ^ 29)
  rows_few rows reached =
      let least = no_lower e v under (neg_ℤ (pos (2 ^ 28))) re.lo.bottom re.hi.bottom in
      let few = cancel_le_right (sweep_rise e) rows (v.y -ℤ neg_ℤ (pos (2 ^ 28))) rise_positive (omega (arith, lin)) in
      let top = rv.top in
      omega (arith, lin)

-- of two edges under a point the one is nearer where it is met within a row and the other is wholly below that row
pub nearer_by_row : (e f : Seg) (v : Coord) (rows : ℤ) → IsSegInRange e → IsSegInRange f → IsTrue (is_under f (at_coord v)) → IsRowsDown e v rows
    → f.lo.y <ℤ (v.y -ℤ rows) → f.hi.y <ℤ (v.y -ℤ rows) → IsNearer (at_coord v) e f
nearer_by_row e f v rows re rf under down low high =
    let e_up = rises-in_range e re in
    let f_up = rises-in_range f rf in
    let below = no_higher f v under ((v.y -ℤ rows) -ℤ pos 1) (omega (arith, lin)) (omega (arith, lin)) in
    let same : v.y -ℤ ((v.y -ℤ rows) -ℤ pos 1) ≡ rows +ℤ pos 1 = omega (arith, lin) in
    let further : ((rows +ℤ pos 1) *ℤ sweep_rise f) ≤ℤ (pos (2 ^ 30) *ℤ side f (at_coord v)) = rw (← same) below in
    inl (cancel_lt (pos (2 ^ 30)) (side e (at_coord v) *ℤ sweep_rise f) (side f (at_coord v) *ℤ sweep_rise e) (omega (arith, lin))
    (by_lt_two (side e (at_coord v) ∷ sweep_rise e ∷ side f (at_coord v) ∷ sweep_rise f ∷ (rows +ℤ pos 1) ∷ []) (Lit (pos (2 ^ 30)) ⊗ (Var 0 ⊗ Var 3)) (Lit (pos (2 ^ 30)) ⊗ (Var 2 ⊗ Var 1))
    (Var 3) (Lit (pos (2 ^ 30)) ⊗ Var 0) (Var 4 ⊗ Var 1) (Var 1) (Var 4 ⊗ Var 3) (Lit (pos (2 ^ 30)) ⊗ Var 2)
    refl (omega (arith, lin)) down.within (omega (arith, lin)) further))

-- ---- as the code computes it

-- the size of a number that is not negative
pub size_read : (n : ℕ) (x z : ℤ) → x ≡ z → IsWithin (2 ^ 62) x → pos 0 ≤ℤ z → n ≡ unsigned_abs (read w64 x) → pos n ≡ z
size_read n x z is within positive size =
    ap pos size ∙ ap (λ y. pos (unsigned_abs y)) (read_within w64 x (2 ^ 62) (lit< tt) within) ∙ unsigned_abs_nonneg x (omega (arith, lin)) ∙ is

-- the quotient of two such numbers
pub rows_divided : (e : Seg) (p : Coord) (turn rise : ℕ) → pos turn ≡ side e (at_coord p) → pos rise ≡ sweep_rise e → 0 < rise → IsRowsDown e p (pos (turn * 2 ^ 30 / rise))
rows_divided e p turn rise is_turn is_rise up =
    let rows = turn * 2 ^ 30 / rise in
    let low : rows * rise ≤ 2 ^ 30 * turn = omega (arith, up) in
    let high : 2 ^ 30 * turn < (rows + 1) * rise = omega (arith, up) in
    record {
      reached = subst (λ w. (pos rows *ℤ w) ≤ℤ (pos (2 ^ 30) *ℤ side e (at_coord p))) is_rise
          (subst (λ s. (pos rows *ℤ pos rise) ≤ℤ (pos (2 ^ 30) *ℤ s)) is_turn ((pos_le (rows * rise) (2 ^ 30 * turn)).1 low));
      within = subst (λ w. (pos (2 ^ 30) *ℤ side e (at_coord p)) <ℤ ((pos rows +ℤ pos 1) *ℤ w)) is_rise
          (subst (λ s. (pos (2 ^ 30) *ℤ s) <ℤ ((pos rows +ℤ pos 1) *ℤ pos rise)) is_turn ((pos_lt (2 ^ 30 * turn) ((rows + 1) * rise)).1 high));
    }

-- what the code reads of an edge under a point in range
pub rows_read : (e : Seg) (p : Coord) → IsSegInRange e → IsInRange p → IsTrue (is_under e (at_coord p)) → (x y : ℤ) (turn rise : ℕ) → x ≡ side e (at_coord p) → IsWithin (2 ^ 59) x → turn ≡ unsigned_abs (read w64 x)
    → y ≡ sweep_rise e → IsWithin (2 ^ 60) y → rise ≡ unsigned_abs (read w64 y) → (0 < rise) × IsRowsDown e p (pos (turn * 2 ^ 30 / rise)) × (turn * 2 ^ 30 / rise ≤ 2 ^ 29)
rows_read e p re rp under x y turn rise is_x small_x size_x is_y small_y size_y =
    let up = rise_positive e p re rp under in
    let above = ((under-is e (at_coord p)).0 under).above in
    let is_turn : pos turn ≡ side e (at_coord p) = size_read turn x (side e (at_coord p)) is_x (within_more (lit≤ tt) small_x) (le_of_lt above) size_x in
    let is_rise : pos rise ≡ sweep_rise e = size_read rise y (sweep_rise e) is_y (within_more (lit≤ tt) small_y) (le_of_lt up) size_y in
    let positive : 0 < rise = (pos_lt 0 rise).0 (subst (λ z. pos 0 <ℤ z) (sym is_rise) up) in
    let down = rows_divided e p turn rise is_turn is_rise positive in
    (positive, down, (pos_le (turn * 2 ^ 30 / rise) (2 ^ 29)).0 (rows_few e p re rp under (pos (turn * 2 ^ 30 / rise)) down.reached))
