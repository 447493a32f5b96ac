-- The tests of the code that decide which pixels a segment meets, and in which order.
use mathlib.Core.List.{[], ◌∷◌}
use Rattle.std.proofs.Common.{◌≡◌, ◌⊎◌, inl, inr, sym, ◌^◌, ℤ, pos, neg_ℤ, ◌+ℤ◌, ◌-ℤ◌, ◌*ℤ◌, ◌<ℤ◌, ◌≤ℤ◌, ◌↔◌, int_lt, int_le, IsTrue, false, true≢false, ◌∙◌, FitsSigned, to_z, of_z, arith}
use Rattle.std.proofs.lemmas.Int.{ints, to_z-of_z}
use mir.Syntax.{w32, w128}
use Rattle.integer_laws.proofs.Ring.{lin, Term, Var, ◌⊖◌, ◌⊗◌}
use Rattle.integer_laws.proofs.Compare.{int_lt_is, int_le_is, int_lt_false, lt_irrefl, lt_excludes_eq}
use Rattle.integer_laws.proofs.Bound.{IsWithin, by_bound, fits_within}
use Rattle.cov_types.specs.declared.coord.Coord.{Coord}
use Rattle.cov_types.specs.declared.seg.Seg.{Seg}
use Rattle.plane.specs.Segment.{turn_of}
use Rattle.rounding_laws.specs.Formulas.{ComesFirst, IsBeside, IsBesideUp, IsBesideDown, reach_up, reach_down}

-- a number of 128 bits as it is read again
abbrev pub read : ℤ → ℤ
read z = to_z w128 (of_z w128 z)

-- ---- the order of centres

-- two centres in one column
first_up : (s : Seg) (a b : Coord) → ¬ (a.x <ℤ b.x) → s.lo.y ≤ℤ s.hi.y → ComesFirst s a b → a.y <ℤ b.y
first_up s a b n up (inl x) = absurd (n x)
first_up s a b n up (inr (e, inl rises)) = rises.1
first_up s a b n up (inr (e, inr falls)) = absurd (let down = falls.0 in let both = lt_irrefl {x = s.hi.y} (omega (arith, lin)) in both)

first_down : (s : Seg) (a b : Coord) → ¬ (a.x <ℤ b.x) → s.hi.y <ℤ s.lo.y → ComesFirst s a b → b.y <ℤ a.y
first_down s a b n down (inl x) = absurd (n x)
first_down s a b n down (inr (e, inl rises)) = absurd (let up = rises.0 in let both = lt_irrefl {x = s.hi.y} (omega (arith, lin)) in both)
first_down s a b n down (inr (e, inr falls)) = falls.1

first_by_x : (s : Seg) (a b : Coord) → ¬ (a.x ≡ b.x) → ComesFirst s a b → a.x <ℤ b.x
first_by_x s a b n (inl x) = x
first_by_x s a b n (inr (e, rest)) = absurd (n e)

not_before_itself : (x y : ℤ) → x ≡ y → ¬ (x <ℤ y)
not_before_itself x y e l = lt_excludes_eq l e

-- where the centres stand in different columns, the columns tell; in one column, the rows
pub in_columns : (s : Seg) (a b : Coord) → ¬ (a.x ≡ b.x) → IsTrue (int_lt a.x b.x) ↔ ComesFirst s a b
in_columns s a b n = (λ h. inl ((int_lt_is a.x b.x).0 h), λ h. (int_lt_is a.x b.x).1 (first_by_x s a b n h))

pub in_column_up : (s : Seg) (a b : Coord) → a.x ≡ b.x → s.lo.y ≤ℤ s.hi.y → IsTrue (int_lt a.y b.y) ↔ ComesFirst s a b
in_column_up s a b e up =
    (λ h. inr (e, inl (up, (int_lt_is a.y b.y).0 h)), λ h. (int_lt_is a.y b.y).1 (first_up s a b (not_before_itself a.x b.x e) up h))

pub in_column_down : (s : Seg) (a b : Coord) → a.x ≡ b.x → s.hi.y <ℤ s.lo.y → IsTrue (int_lt b.y a.y) ↔ ComesFirst s a b
in_column_down s a b e down =
    (λ h. inr (e, inr (down, (int_lt_is b.y a.y).0 h)), λ h. (int_lt_is b.y a.y).1 (first_down s a b (not_before_itself a.x b.x e) down h))

-- ---- turns of any coordinates

abbrev turn_term : Term
turn_term = (Var 2 ⊖ Var 0) ⊗ (Var 5 ⊖ Var 1) ⊖ (Var 3 ⊖ Var 1) ⊗ (Var 4 ⊖ Var 0)

pub turn_small : (a b c : Coord) → FitsSigned w32 a.x → FitsSigned w32 a.y → FitsSigned w32 b.x → FitsSigned w32 b.y → FitsSigned w32 c.x → FitsSigned w32 c.y → IsWithin (2 ^ 65) (turn_of a b c)
unfolding turn_of
turn_small a b c ax ay bx by cx cy =
    by_bound (2 ^ 31 ∷ 2 ^ 31 ∷ 2 ^ 31 ∷ 2 ^ 31 ∷ 2 ^ 31 ∷ 2 ^ 31 ∷ []) (a.x ∷ a.y ∷ b.x ∷ b.y ∷ c.x ∷ c.y ∷ []) turn_term
    (fits_within w32 ax, (fits_within w32 ay, (fits_within w32 bx, (fits_within w32 by, (fits_within w32 cx, (fits_within w32 cy, tt))))))

-- ---- beside a segment that goes up, or down

pub beside_up : (s : Seg) (r : Coord) → s.lo.x ≤ℤ r.x → r.x ≤ℤ s.hi.x → s.lo.y ≤ℤ s.hi.y → IsBesideUp s r ↔ IsBeside s r
beside_up s r from to up = (λ h. record { from = from; to = to; within = inl h }, λ h. which h.within)
  where
    which : IsBesideUp s r ⊎ IsBesideDown s r → IsBesideUp s r
    which (inl h) = h
    which (inr h) = absurd (let down = h.down in let both = lt_irrefl {x = s.hi.y} (omega (arith, lin)) in both)

pub beside_down : (s : Seg) (r : Coord) → s.lo.x ≤ℤ r.x → r.x ≤ℤ s.hi.x → s.hi.y <ℤ s.lo.y → IsBesideDown s r ↔ IsBeside s r
beside_down s r from to down = (λ h. record { from = from; to = to; within = inr h }, λ h. which h.within)
  where
    which : IsBesideUp s r ⊎ IsBesideDown s r → IsBesideDown s r
    which (inl h) = absurd (let up = h.up in let both = lt_irrefl {x = s.hi.y} (omega (arith, lin)) in both)
    which (inr h) = h

-- ---- reaches and turns as they are read

-- x is not below y
pub not_below : (x y : ℤ) → FitsSigned w32 x → FitsSigned w32 y → int_lt (to_z w32 (of_z w32 x)) (to_z w32 (of_z w32 y)) ≡ false → y ≤ℤ x
not_below x y f g h = (int_lt_false x y).0 (simp to_z-of_z at h)

-- the extent from one coordinate to another
pub extent_read : (a from to : ℤ) → FitsSigned w32 from → FitsSigned w32 to → a ≡ to_z w32 (of_z w32 to) -ℤ to_z w32 (of_z w32 from) → a ≡ to -ℤ from
extent_read a from to f t e = omega (arith, ints)

pub reach_read : (a b u v : ℤ) → IsWithin (2 ^ 32) a → IsWithin (2 ^ 32) b → a ≡ u → b ≡ v → read (read a +ℤ read b) ≡ u +ℤ v
reach_read a b u v ha hb e f = omega (arith, ints)

pub minus_read : (a b u v : ℤ) → IsWithin (2 ^ 32) a → IsWithin (2 ^ 32) b → a ≡ u → b ≡ v → read (pos 0 -ℤ read (read a +ℤ read b)) ≡ neg_ℤ (u +ℤ v)
minus_read a b u v ha hb e f = omega (arith, ints)

pub turn_read : (t u : ℤ) → IsWithin (2 ^ 67) t → t ≡ u → read t ≡ u
turn_read t u h e = omega (arith, ints)

-- ---- a test of x against y, which are u and v

pub lt_told : {x y u v : ℤ} → x ≡ u → y ≡ v → IsTrue (int_lt x y) ↔ (u <ℤ v)
lt_told {x} {y} {u} {v} e f =
    (λ h. let l = (int_lt_is x y).0 h in omega (arith, lin), λ (l : u <ℤ v). (int_lt_is x y).1 (omega (arith, lin)))

le_told : {x y u v : ℤ} → x ≡ u → y ≡ v → IsTrue (int_le x y) ↔ (u ≤ℤ v)
le_told {x} {y} {u} {v} e f =
    (λ h. let l = (int_le_is x y).0 h in omega (arith, lin), λ (l : u ≤ℤ v). (int_le_is x y).1 (omega (arith, lin)))

-- ---- the last two tests, x against y: whether twice the turn is strictly between the two reaches

module _ (s : Seg) (r : Coord) (x y : ℤ) where
  pub up_by_high : s.lo.y ≤ℤ s.hi.y → s.lo.y ≤ℤ r.y → r.y ≤ℤ s.hi.y → neg_ℤ (reach_up s) <ℤ (pos 2 *ℤ turn_of s.lo s.hi r)
      → x ≡ pos 2 *ℤ turn_of s.lo s.hi r → y ≡ reach_up s → IsTrue (int_lt x y) ↔ IsBesideUp s r
  up_by_high up from to right e f =
      (λ h. record { up = up; from = from; to = to; right = right; left = (lt_told e f).0 h }, λ b. (lt_told e f).1 b.left)

  pub up_fails : x ≡ neg_ℤ (reach_up s) → y ≡ pos 2 *ℤ turn_of s.lo s.hi r → int_lt x y ≡ false → IsTrue (int_lt x y) ↔ IsBesideUp s r
  up_fails e f n = (λ h. absurd (true≢false (sym h ∙ n)), λ b. (lt_told e f).1 b.right)

  pub down_by_high : s.hi.y <ℤ s.lo.y → r.y ≤ℤ s.lo.y → s.hi.y ≤ℤ r.y → neg_ℤ (reach_down s) <ℤ (pos 2 *ℤ turn_of s.lo s.hi r)
      → x ≡ pos 2 *ℤ turn_of s.lo s.hi r → y ≡ reach_down s → IsTrue (int_le x y) ↔ IsBesideDown s r
  down_by_high down from to right e f =
      (λ h. record { down = down; from = from; to = to; right = right; left = (le_told e f).0 h }, λ b. (le_told e f).1 b.left)

  pub down_fails : x ≡ neg_ℤ (reach_down s) → y ≡ pos 2 *ℤ turn_of s.lo s.hi r → int_lt x y ≡ false → IsTrue (int_lt x y) ↔ IsBesideDown s r
  down_fails e f n = (λ h. absurd (true≢false (sym h ∙ n)), λ b. (lt_told e f).1 b.right)
