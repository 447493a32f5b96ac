-- Products and turns in 64 bits of numbers with bounds.
use Rattle.std.proofs.Common.{◌≡◌, ◌∙◌, sym, subst, ◌+◌, ◌*◌, ◌^◌, ℤ, pos, ◌-ℤ◌, ◌*ℤ◌, FitsSigned, to_z, of_z, lit<, lit≤}
use Rattle.std.proofs.lemmas.Int.{to_z-of_z}
use mir.Syntax.{w64}
use Rattle.integer_laws.proofs.Bound.{IsWithin, within_pos, within_more, within_product, within_difference, within_fits}
use Rattle.plane.specs.Segment.{turn_of}
use Rattle.box_tree.specs.Probe.{twice_turn}
use Rattle.cov_types.specs.declared.seg.Seg.{Seg}

-- a number of 64 bits as it is read again
abbrev pub read : ℤ → ℤ
read z = to_z w64 (of_z w64 z)

product_within : (a n : ℤ) → IsWithin (2 ^ 29) a → IsWithin (2 ^ 28 + 2 ^ 31) n → IsWithin (2 ^ 57 + 2 ^ 60) (a *ℤ n)
product_within a n ha hn = within_more {m = 2 ^ 29 * (2 ^ 28 + 2 ^ 31)} (lit≤ tt) (within_product ha hn)

-- a product is exact
pub product_is : (a n : ℤ) → IsWithin (2 ^ 29) a → IsWithin (2 ^ 28 + 2 ^ 31) n → read (read a *ℤ read n) ≡ a *ℤ n
product_is a n ha hn =
    let fits_a : FitsSigned w64 a = within_fits w64 (lit< tt) ha in
    let fits_n : FitsSigned w64 n = within_fits w64 (lit< tt) hn in
    let fits : FitsSigned w64 (a *ℤ n) = within_fits w64 (lit< tt) (product_within a n ha hn) in
    simp to_z-of_z

pub product_small : (a n : ℤ) → IsWithin (2 ^ 29) a → IsWithin (2 ^ 28 + 2 ^ 31) n → IsWithin (2 ^ 57 + 2 ^ 60) (read (read a *ℤ read n))
product_small a n ha hn = subst (IsWithin (2 ^ 57 + 2 ^ 60)) (sym (product_is a n ha hn)) (product_within a n ha hn)

twice_within : (p q : ℤ) → IsWithin (2 ^ 57 + 2 ^ 60) p → IsWithin (2 ^ 57 + 2 ^ 60) q → IsWithin (2 * (2 ^ 57 + 2 ^ 60 + (2 ^ 57 + 2 ^ 60))) (pos 2 *ℤ (p -ℤ q))
twice_within p q hp hq = within_product (within_pos 2) (within_difference hp hq)

-- twice the difference of two products is exact
pub twice_fits : (p q : ℤ) → IsWithin (2 ^ 57 + 2 ^ 60) p → IsWithin (2 ^ 57 + 2 ^ 60) q → FitsSigned w64 (pos 2 *ℤ read (read p -ℤ read q))
twice_fits p q hp hq =
    let fits_p : FitsSigned w64 p = within_fits w64 (lit< tt) hp in
    let fits_q : FitsSigned w64 q = within_fits w64 (lit< tt) hq in
    let fits : FitsSigned w64 (p -ℤ q) = within_fits w64 (lit< tt) (within_difference hp hq) in
    simp to_z-of_z (within_fits w64 (lit< tt) (twice_within p q hp hq))

pub twice_is : (p q : ℤ) → IsWithin (2 ^ 57 + 2 ^ 60) p → IsWithin (2 ^ 57 + 2 ^ 60) q → read (pos 2 *ℤ read (read p -ℤ read q)) ≡ pos 2 *ℤ (p -ℤ q)
twice_is p q hp hq =
    let fits_p : FitsSigned w64 p = within_fits w64 (lit< tt) hp in
    let fits_q : FitsSigned w64 q = within_fits w64 (lit< tt) hq in
    let fits_d : FitsSigned w64 (p -ℤ q) = within_fits w64 (lit< tt) (within_difference hp hq) in
    let fits : FitsSigned w64 (pos 2 *ℤ (p -ℤ q)) = within_fits w64 (lit< tt) (twice_within p q hp hq) in
    simp to_z-of_z

-- the turn from its two products, and these from the four differences
pub twice_turn_parts : (s : Seg) (x y p q u v w z : ℤ) → p ≡ u *ℤ v → q ≡ w *ℤ z
    → u ≡ s.hi.x -ℤ s.lo.x → v ≡ y -ℤ s.lo.y → w ≡ s.hi.y -ℤ s.lo.y → z ≡ x -ℤ s.lo.x → pos 2 *ℤ (p -ℤ q) ≡ twice_turn s x y
unfolding turn_of
twice_turn_parts s x y p q u v w z hp hq hu hv hw hz =
    (λ i. pos 2 *ℤ (hp i -ℤ hq i)) ∙ (λ i. pos 2 *ℤ ((hu i *ℤ hv i) -ℤ (hw i *ℤ hz i)))
