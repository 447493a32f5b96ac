-- Trapezoids as the code computes them.
use mir.Syntax.{w32, w64, w128}
use Rattle.std.proofs.Common.{◌≡◌, sym, ◌∙◌, subst, ◌≤◌, ◌^◌, ℤ, pos, ◌+ℤ◌, ◌-ℤ◌, ◌*ℤ◌, FitsSigned, unsigned_abs, to_z, of_z, lit<, lit≤, arith}
use Rattle.std.proofs.lemmas.Int.{ints, to_z-of_z}
use Rattle.cov_types.specs.declared.seg.Seg.{Seg}
use Rattle.integer_laws.proofs.Bound.{IsWithin, within_sum, within_more, abs_within}
use Rattle.grid_pred.proofs.Small.{read, read_within}
use Rattle.arrangement.specs.Measure.{trapezoid}

pub small_is : (x : ℤ) → unsigned_abs x ≤ 2 ^ 60 → to_z w128 (of_z w128 x) ≡ x
small_is x h = omega (arith, ints)

pub negated_is : (x : ℤ) → unsigned_abs x ≤ 2 ^ 60 → to_z w128 (of_z w128 (pos 0 -ℤ to_z w128 (of_z w128 x))) ≡ pos 0 -ℤ x
negated_is x h = omega (arith, ints)

-- a product in 64 bits, as it is read in 128
pub widened : (p : ℤ) → IsWithin (2 ^ 60) p → read w128 (read w64 p) ≡ p
widened p h =
    let narrow = read_within w64 p (2 ^ 60) (lit< tt) h in
    read_within w128 (read w64 p) (2 ^ 60) (lit< tt) (subst (IsWithin (2 ^ 60)) (sym narrow) h) ∙ narrow

pub widened_small : (p : ℤ) → IsWithin (2 ^ 60) p → unsigned_abs (read w128 (read w64 p)) ≤ 2 ^ 60
widened_small p h = subst (λ z. unsigned_abs z ≤ 2 ^ 60) (sym (widened p h)) (abs_within h)

pub sum_is : (d a b : ℤ) → FitsSigned w32 a → FitsSigned w32 b → d ≡ read w32 a +ℤ read w32 b → d ≡ a +ℤ b
sum_is d a b fits_a fits_b is = is ∙ (λ i. to_z-of_z w32 a fits_a i +ℤ to_z-of_z w32 b fits_b i)

-- a sum as its bits are read again, for a product
pub sum_small : (d a b : ℤ) → IsWithin (2 ^ 28) a → IsWithin (2 ^ 28) b → d ≡ read w32 a +ℤ read w32 b → IsWithin (2 ^ 30) (read w64 d)
sum_small d a b ha hb is =
    let both : d ≡ a +ℤ b = is ∙ (λ i. read_within w32 a (2 ^ 28) (lit< tt) ha i +ℤ read_within w32 b (2 ^ 28) (lit< tt) hb i) in
    let within : IsWithin (2 ^ 29) d = subst (IsWithin (2 ^ 29)) (sym both) (within_sum ha hb) in
    subst (IsWithin (2 ^ 30)) (sym (read_within w64 d (2 ^ 29) (lit< tt) within)) (within_more (lit≤ tt) within)

pub trapezoid_is : (e : Seg) (p d s : ℤ) → p ≡ d *ℤ s → d ≡ e.hi.x -ℤ e.lo.x → s ≡ e.lo.y +ℤ e.hi.y → p ≡ trapezoid e
unfolding trapezoid
trapezoid_is e p d s product wide high = product ∙ (λ i. wide i *ℤ high i)
