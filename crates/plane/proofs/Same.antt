-- One point as two fractions: every test answers the same of both.
use mathlib.Core.Bool.{Bool, true, false}
use Rattle.std.specs.Prelude.{count_by, List, ◌&&◌, ◌%◌, ◌==◌}
use Rattle.std.proofs.Common.{◌≡◌, refl, sym, ap, ℕ, pos, ◌*ℤ◌, ◌<ℤ◌, ◌↔◌, IsTrue, arith}
use Rattle.integer_laws.proofs.Ring.{lin, mul_comm, zero_mul}
use Rattle.integer_laws.proofs.Compare.{le_of_lt}
use Rattle.integer_laws.proofs.Order.{cancel_eq_right}
use Rattle.integer_laws.proofs.Sign.{positive_times_negative, negative_factor}
use Rattle.cov_types.specs.declared.edge_use.EdgeUse.{EdgeUse}
use Rattle.cov_types.specs.declared.seg.Seg.{Seg}
use Rattle.plane.specs.Point.{Point, SamePoint, at_coord}
use Rattle.plane.specs.Segment.{IsOn, side}
use Rattle.plane.specs.Ray.{sweep, is_over}
use Rattle.plane.specs.Parity.{holds, member_holds}
use Rattle.plane.proofs.Points.{d_positive, same_point-sym, between-moved}
use Rattle.plane.proofs.Sides.{side-same}
use Rattle.plane.proofs.Sweeps.{sweep-same}
use Rattle.plane.proofs.Over.{IsOver, over-is, low_end, high_end}

-- two tests that say the same are equal
pub same_tests : (a b : Bool) → (IsTrue a → IsTrue b) → (IsTrue b → IsTrue a) → a ≡ b
same_tests true b h k = sym (h refl)
same_tests false true h k = k refl
same_tests false false h k = refl

-- ---- sides

negative_moved : (e : Seg) (p q : Point) → SamePoint p q → side e p <ℤ pos 0 → side e q <ℤ pos 0
negative_moved e p q h below =
    let same = side-same e p q h in
    let product = positive_times_negative (d_positive q) below in
    negative_factor (pos p.d) (side e q) (le_of_lt (d_positive p)) (omega (arith, lin, mul_comm (pos p.d) (side e q), mul_comm (pos q.d) (side e p)))

pub side_negative-same : (e : Seg) (p q : Point) → SamePoint p q → (side e p <ℤ pos 0) ↔ (side e q <ℤ pos 0)
side_negative-same e p q h = (negative_moved e p q h, negative_moved e q p (same_point-sym p q h))

zero_moved : (e : Seg) (p q : Point) → SamePoint p q → side e p ≡ pos 0 → side e q ≡ pos 0
zero_moved e p q h zero =
    let same = side-same e p q h in
    let product = ap (λ x. x *ℤ pos q.d) zero in
    cancel_eq_right (pos p.d) (side e q) (pos 0) (d_positive p) (omega (arith, lin, zero_mul (pos q.d), zero_mul (pos p.d)))

pub side_zero-same : (e : Seg) (p q : Point) → SamePoint p q → (side e p ≡ pos 0) ↔ (side e q ≡ pos 0)
side_zero-same e p q h = (zero_moved e p q h, zero_moved e q p (same_point-sym p q h))

-- ---- on a segment, over, parity

pub on-same : (s : Seg) (p q : Point) → SamePoint p q → IsOn s p ↔ IsOn s q
on-same s p q h = (between-moved p q (at_coord s.lo) (at_coord s.hi) h, between-moved q p (at_coord s.lo) (at_coord s.hi) (same_point-sym p q h))

is_over_moved : (e : Seg) (p q : Point) → SamePoint p q → IsOver e p → IsOver e q
is_over_moved e p q h over = record {
  from = low_end (sweep (at_coord e.lo)) (sweep p) (pos p.d) (sweep q) (pos q.d) (d_positive p) (le_of_lt (d_positive q)) over.from (sweep-same p q h);
  to = high_end (sweep (at_coord e.hi)) (sweep p) (pos p.d) (sweep q) (pos q.d) (d_positive p) (d_positive q) over.to (sweep-same p q h);
  below = negative_moved e p q h over.below;
}

pub over-same : (e : Seg) (p q : Point) → SamePoint p q → is_over e p ≡ is_over e q
over-same e p q h =
    let at_p = over-is e p in
    let at_q = over-is e q in
    same_tests (is_over e p) (is_over e q)
    (λ t. at_q.1 (is_over_moved e p q h (at_p.0 t)))
    (λ t. at_p.1 (is_over_moved e q p (same_point-sym p q h) (at_q.0 t)))

pub holds-same : (edges : List Seg) (p q : Point) → SamePoint p q → holds edges p ≡ holds edges q
holds-same edges p q h = λ i. count_by (λ e. over-same e p q h i) edges % 2 == 1

pub member_holds-same : (uses : List EdgeUse) (member : ℕ) (p q : Point) → SamePoint p q → member_holds uses member p ≡ member_holds uses member q
member_holds-same uses member p q h = λ i. count_by (λ u. (u.member == member) && over-same u.seg p q h i) uses % 2 == 1
