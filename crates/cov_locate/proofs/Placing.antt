-- Where boxes lie about a grid point, and what that tells of the segments in them.
use Rattle.std.proofs.Common.{◌≡◌, ◌^◌, false, inl, inr, ℤ, pos, neg_ℤ, ◌+ℤ◌, ◌*ℤ◌, ◌≤ℤ◌, arith}
use Rattle.std.proofs.lemmas.Bool.{cases_Bool}
use Rattle.box_tree.specs.Rect.{IsInside, box_of_point, box_of_segment}
use Rattle.box_tree.specs.declared.rect.Rect.{Rect}
use Rattle.box_tree.proofs.CommonPoint.{in_box-on, least_first, least_second, greatest_first, greatest_second}
use Rattle.cov_locate.specs.Blocks.{IsPlaced, IsPlacedAbout}
use Rattle.cov_locate.specs.declared.block.Placed.{Placed}
use Rattle.cov_locate.specs.declared.block.Placed.TheVariants.{Beside, Higher, Near}
use Rattle.cov_types.specs.Coord.{is_before}
use Rattle.cov_types.specs.Range.{IsInRange, IsSegInRange}
use Rattle.cov_types.specs.declared.coord.Coord.{Coord}
use Rattle.cov_types.specs.declared.seg.Seg.{Seg}
use Rattle.integer_laws.proofs.Ring.{lin, mul_one, pos_times}
use Rattle.parity_laws.proofs.Under.{top_above}
use Rattle.parity_laws.specs.Paths.{IsHigher}
use Rattle.plane.specs.Point.{at_coord}
use Rattle.plane.specs.Ray.{is_over, sweep, sweep_below}
use Rattle.plane.specs.Segment.{IsOn}
use Rattle.plane.proofs.Over.{IsOver, over-is}
use Rattle.plane.proofs.Same.{same_tests}
use Rattle.plane.proofs.Sweeps.{sweep-before, before-sweep, sweep_below-is}

-- a box within one that is beside or above the point is so too
pub placed_inward : (a b : Rect) (p : Coord) (placed : Placed) → IsInside a b → IsPlaced b p placed → IsPlaced a p placed
placed_inward a b p Beside inside h =
    elim h [
      | inl left ↦ inl (omega (arith, lin, left, inside.left))
      | inr rest ↦ elim rest [
        | inl right ↦ inr (inl (omega (arith, lin, right, inside.right)))
        | inr below ↦ inr (inr (omega (arith, lin, below, inside.top)))
      ]
    ]
placed_inward a b p Higher inside h = omega (arith, lin, h, inside.bottom)
placed_inward a b p Near inside h = tt

-- a box that is so placed about all points of another
pub placed_within : (b round : Rect) (p : Coord) (placed : Placed) → IsInside (box_of_point p) round → IsPlacedAbout b round placed → IsPlaced b p placed
placed_within b round p Beside inside h =
    elim h [
      | inl left ↦ inl (omega (arith, lin, left, inside.right))
      | inr rest ↦ elim rest [
        | inl right ↦ inr (inl (omega (arith, lin, right, inside.left)))
        | inr below ↦ inr (inr (omega (arith, lin, below, inside.bottom)))
      ]
    ]
placed_within b round p Higher inside h = omega (arith, lin, h, inside.top)
placed_within b round p Near inside h = tt

-- ---- a segment whose box is beside or above the point

beside_not_on : (e : Seg) (p : Coord) → IsPlaced (box_of_segment e) p Beside → ¬ IsOn e (at_coord p)
beside_not_on e p h on =
    let b = box_of_segment e in
    let at = in_box-on e (at_coord p) on in
    let left = mul_one b.lo.x in
    let right = mul_one b.hi.x in
    let top = mul_one b.hi.y in
    elim h [
      | inl before ↦ omega (arith, lin, before, at.left)
      | inr rest ↦ elim rest [
        | inl past ↦ omega (arith, lin, past, at.right)
        | inr below ↦ omega (arith, lin, below, at.top)
      ]
    ]

higher_not_on : (e : Seg) (p : Coord) → IsPlaced (box_of_segment e) p Higher → ¬ IsOn e (at_coord p)
higher_not_on e p h on =
    let b = box_of_segment e in
    let at = in_box-on e (at_coord p) on in
    omega (arith, lin, h, at.bottom, mul_one b.lo.y)

-- beside or above
abbrev pub IsFar : Placed → Type 0
IsFar Beside = Unit {0}
IsFar Higher = Unit {0}
IsFar Near = ⊥

-- the segment does not have the point
pub not_on : (e : Seg) (p : Coord) (placed : Placed) → IsPlaced (box_of_segment e) p placed → IsFar placed → ¬ IsOn e (at_coord p)
not_on e p Beside h far on = beside_not_on e p h on
not_on e p Higher h far on = higher_not_on e p h on
not_on e p Near h far on = far

-- both ends of one above the point are higher
pub higher_is : (e : Seg) (p : Coord) → IsPlaced (box_of_segment e) p Higher → IsHigher (at_coord p) e
higher_is e p h =
    record {
      lo = omega (arith, lin, h, least_first e.lo.y e.hi.y, mul_one e.lo.y);
      hi = omega (arith, lin, h, least_second e.lo.y e.hi.y, mul_one e.hi.y);
    }

-- ---- over plain variables

-- in range a sweep value that is not greater has no greater column
column_le : (x y u v : ℤ) → ((pos (2 ^ 30) *ℤ x) +ℤ y) ≤ℤ ((pos (2 ^ 30) *ℤ u) +ℤ v) → neg_ℤ (pos (2 ^ 28)) ≤ℤ y → v ≤ℤ pos (2 ^ 28) → x ≤ℤ u
column_le x y u v h low high = omega (arith, lin, pos_times (2 ^ 30) x, pos_times (2 ^ 30) u)

between_columns : (e : Seg) (p : Coord) → IsSegInRange e → IsInRange p → IsOver e (at_coord p) → (e.lo.x ≤ℤ p.x) × (p.x ≤ℤ e.hi.x)
unfolding sweep
between_columns e p he hp over =
    let from = over.from in
    let to = over.to in
    let lo = mul_one ((pos (2 ^ 30) *ℤ e.lo.x) +ℤ e.lo.y) in
    let hi = mul_one ((pos (2 ^ 30) *ℤ e.hi.x) +ℤ e.hi.y) in (
      column_le e.lo.x e.lo.y p.x p.y (omega (arith, lin)) (omega (arith, lin, he.lo.bottom)) (omega (arith, lin, hp.top)),
      column_le p.x p.y e.hi.x e.hi.y (omega (arith, lin)) (omega (arith, lin, hp.bottom)) (omega (arith, lin, he.hi.top)),
    )

over_not_beside : (e : Seg) (p : Coord) → IsSegInRange e → IsInRange p → IsOver e (at_coord p) → ¬ IsPlaced (box_of_segment e) p Beside
over_not_beside e p he hp over h =
    let columns = between_columns e p he hp over in
    elim h [
      | inl left ↦ omega (arith, lin, left, columns.0, least_first e.lo.x e.hi.x)
      | inr rest ↦ elim rest [
        | inl right ↦ omega (arith, lin, right, columns.1, greatest_second e.lo.x e.hi.x)
        | inr below ↦ elim (top_above e (at_coord p) over) [
          | inl lo ↦ omega (arith, lin, lo, below, greatest_first e.lo.y e.hi.y, mul_one e.lo.y)
          | inr hi ↦ omega (arith, lin, hi, below, greatest_second e.lo.y e.hi.y, mul_one e.hi.y)
        ]
      ]
    ]

-- one beside the point is not over it
pub not_over : (e : Seg) (p : Coord) → IsSegInRange e → IsInRange p → IsPlaced (box_of_segment e) p Beside → is_over e (at_coord p) ≡ false
not_over e p he hp h =
    elim (cases_Bool (is_over e (at_coord p))) [
      | inl over ↦ absurd (over_not_beside e p he hp ((over-is e (at_coord p)).0 over) h)
      | inr off ↦ off
    ]

-- ---- the order of grid points

pub before_is : (a b : Coord) → IsInRange a → IsInRange b → is_before a b ≡ sweep_below (at_coord a) (at_coord b)
before_is a b ra rb =
    let one = mul_one (sweep (at_coord a)) in
    let other = mul_one (sweep (at_coord b)) in
    same_tests (is_before a b) (sweep_below (at_coord a) (at_coord b))
    (λ h. (sweep_below-is (at_coord a) (at_coord b)).1 (let less = sweep-before a b ra rb h in omega (arith, lin)))
    (λ h. before-sweep a b ra rb (let less = (sweep_below-is (at_coord a) (at_coord b)).0 h in omega (arith, lin)))
