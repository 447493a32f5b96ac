-- The derived order of coordinates and the sweep value, which orders them alike where they are in range.
use Rattle.std.proofs.Common.{◌≡◌, sym, ◌∙◌, ap, ℤ, pos, ◌≤ℤ◌, ◌<ℤ◌, Bool, not, true, false, refl, IsTrue, FitsSigned, of_z, inl, inr, arith}
use Rattle.std.proofs.lemmas.Int.{ints}
use Rattle.std.specs.Ordering.{partial_le, partial_lt}
use mir.Syntax.{w64}
use Rattle.integer_laws.proofs.Ring.{lin}
use Rattle.integer_laws.proofs.Compare.{lt_or_ge}
use Rattle.cov_types.specs.declared.coord.Coord.{Coord}
use Rattle.cov_types.specs.declared.seg.Seg.{Seg}
use Rattle.cov_types.specs.Coord.{is_before}
use Rattle.cov_types.specs.Range.{IsInRange, IsSegInRange}
use Rattle.cov_types.specs.contracts.coord.CoordPartialOrd.TheImpl.{partial_cmp-value}
use Rattle.plane.specs.Point.{at_coord}
use Rattle.plane.specs.Segment.{IsOn, turn_of}
use Rattle.plane.specs.Ray.{sweep}
use Rattle.plane.proofs.Sweeps.{sweep-before, before-sweep, rises-in_range}
use Rattle.plane.proofs.Along.{on_from_turn, on-turn}

-- what `<` and `<=` answer
pub lt_is : (a b : Coord) → partial_lt partial_cmp-value.it a b ≡ is_before a b
lt_is a b = grind (arith, ints)

pub le_is : (a b : Coord) → partial_le partial_cmp-value.it a b ≡ not (is_before b a)
le_is a b = grind (arith, ints)

not_before : (a b : Coord) → IsTrue (not (is_before b a)) → IsTrue (is_before b a) → ⊥
not_before a b h k = absurd (let e = ap not k in cc)

pub le_from : (a b : Coord) → IsInRange a → IsInRange b → IsTrue (partial_le partial_cmp-value.it a b) → sweep (at_coord a) ≤ℤ sweep (at_coord b)
le_from a b ra rb h =
    elim (lt_or_ge (sweep (at_coord b)) (sweep (at_coord a))) [
      | inl l ↦ absurd (not_before a b (sym (le_is a b) ∙ h) (before-sweep b a rb ra l))
      | inr g ↦ g
    ]

pub le_to : (a b : Coord) → IsInRange a → IsInRange b → sweep (at_coord a) ≤ℤ sweep (at_coord b) → IsTrue (partial_le partial_cmp-value.it a b)
le_to a b ra rb h = le_is a b ∙ after (is_before b a) (λ k. absurd (let l = sweep-before b a rb ra k in omega (arith, lin)))
  where
    after : (t : Bool) → (IsTrue t → ⊥) → IsTrue (not t)
    after true n = absurd (n refl)
    after false n = refl

pub lt_from : (a b : Coord) → IsInRange a → IsInRange b → IsTrue (partial_lt partial_cmp-value.it a b) → sweep (at_coord a) <ℤ sweep (at_coord b)
lt_from a b ra rb h = sweep-before a b ra rb (sym (lt_is a b) ∙ h)

pub not_lt_from : (a b : Coord) → IsInRange a → IsInRange b → partial_lt partial_cmp-value.it a b ≡ false → sweep (at_coord b) ≤ℤ sweep (at_coord a)
not_lt_from a b ra rb h =
    elim (lt_or_ge (sweep (at_coord a)) (sweep (at_coord b))) [
      | inl l ↦ absurd (let before = before-sweep a b ra rb l in let e = lt_is a b in cc)
      | inr g ↦ g
    ]

-- a number of 64 bits is 0 where its bits are
pub zero_from_bits : (z : ℤ) → FitsSigned w64 z → of_z w64 z ≡ 0 → z ≡ pos 0
zero_from_bits z fits h = omega (arith, ints)

-- the test of `on_segment`
pub on_segment_from : (s : Seg) (p : Coord) → IsSegInRange s → IsInRange p → turn_of s.lo s.hi p ≡ pos 0
    → IsTrue (partial_le partial_cmp-value.it s.lo p) → IsTrue (partial_le partial_cmp-value.it p s.hi) → IsOn s (at_coord p)
on_segment_from s p rs rp on_line low high = on_from_turn s p (rises-in_range s rs) on_line (le_from s.lo p rs.lo rp low) (le_from p s.hi rp rs.hi high)

pub on_segment_low : (s : Seg) (p : Coord) → IsSegInRange s → IsInRange p → IsOn s (at_coord p) → IsTrue (partial_le partial_cmp-value.it s.lo p)
on_segment_low s p rs rp on = le_to s.lo p rs.lo rp (on-turn s p (rises-in_range s rs) on).1

pub on_segment_high : (s : Seg) (p : Coord) → IsSegInRange s → IsInRange p → IsOn s (at_coord p) → IsTrue (partial_le partial_cmp-value.it p s.hi)
on_segment_high s p rs rp on = le_to p s.hi rp rs.hi (on-turn s p (rises-in_range s rs) on).2
