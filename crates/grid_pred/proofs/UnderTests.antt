-- The test of an edge that is under a grid point, by the order of coordinates.
use Rattle.std.proofs.Common.{◌≡◌, refl, sym, ◌∙◌, ap, Bool, true, false, not, ◌&&◌, int_lt, ℤ, pos, arith}
use Rattle.std.specs.Ordering.{partial_le, partial_lt}
use Rattle.integer_laws.proofs.Ring.{lin, mul_one}
use Rattle.cov_types.specs.declared.coord.Coord.{Coord}
use Rattle.cov_types.specs.declared.seg.Seg.{Seg}
use Rattle.cov_types.specs.Coord.{is_before}
use Rattle.cov_types.specs.Range.{IsInRange, IsSegInRange}
use Rattle.cov_types.specs.contracts.coord.CoordPartialOrd.TheImpl.{partial_cmp-value}
use Rattle.plane.specs.Point.{at_coord}
use Rattle.plane.specs.Segment.{side}
use Rattle.plane.specs.Ray.{sweep, sweep_below}
use Rattle.plane.specs.Below.{is_under}
use Rattle.plane.proofs.Same.{same_tests}
use Rattle.plane.proofs.Sweeps.{sweep-before, before-sweep, sweep_below-is}
use Rattle.grid_pred.proofs.Order.{lt_is, le_is}

before_is : (a b : Coord) → IsInRange a → IsInRange b → is_before a b ≡ sweep_below (at_coord a) (at_coord b)
before_is a b ra rb =
    let one = mul_one (sweep (at_coord a)) in
    let other = mul_one (sweep (at_coord b)) in
    same_tests (is_before a b) (sweep_below (at_coord a) (at_coord b))
    (λ h. (sweep_below-is (at_coord a) (at_coord b)).1 (let less = sweep-before a b ra rb h in omega (arith, lin)))
    (λ h. before-sweep a b ra rb (let less = (sweep_below-is (at_coord a) (at_coord b)).0 h in omega (arith, lin)))

-- under by the order of coordinates and the side
tests_are : (e : Seg) (v : Coord) (s : ℤ) → IsSegInRange e → IsInRange v → s ≡ side e (at_coord v)
    → (partial_le partial_cmp-value.it e.lo v && partial_lt partial_cmp-value.it v e.hi && int_lt (pos 0) s) ≡ is_under e (at_coord v)
tests_are e v s re rv is_s =
    let first = le_is e.lo v ∙ ap not (before_is v e.lo rv re.lo) in
    let second = lt_is v e.hi ∙ before_is v e.hi rv re.hi in
    λ i. first i && second i && int_lt (pos 0) (is_s i)

module _ (e : Seg) (v : Coord) (re : IsSegInRange e) (rv : IsInRange v) where
  pub under_is : (s : ℤ) → partial_le partial_cmp-value.it e.lo v ≡ true → partial_lt partial_cmp-value.it v e.hi ≡ true → s ≡ side e (at_coord v)
      → int_lt (pos 0) s ≡ is_under e (at_coord v)
  under_is s low high is = (λ i. sym low i && sym high i && int_lt (pos 0) s) ∙ tests_are e v s re rv is

  pub not_under_before : partial_le partial_cmp-value.it e.lo v ≡ false → is_under e (at_coord v) ≡ false
  not_under_before low =
      let s = side e (at_coord v) in
      sym (tests_are e v s re rv refl) ∙ (λ i. low i && partial_lt partial_cmp-value.it v e.hi && int_lt (pos 0) s)

  pub not_under_after : partial_lt partial_cmp-value.it v e.hi ≡ false → is_under e (at_coord v) ≡ false
  not_under_after high =
      let s = side e (at_coord v) in
      sym (tests_are e v s re rv refl) ∙ (λ i. partial_le partial_cmp-value.it e.lo v && high i && int_lt (pos 0) s)
      ∙ middle_false (partial_le partial_cmp-value.it e.lo v) (int_lt (pos 0) s)
    where
      middle_false : (a b : Bool) → (a && false && b) ≡ false
      middle_false true b = refl
      middle_false false b = refl
