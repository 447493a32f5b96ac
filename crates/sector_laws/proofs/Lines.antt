-- Ways on one side of a line, and forms made of the sweep value and the side.
use mathlib.Core.List.{[], ◌∷◌}
use Rattle.std.proofs.Common.{◌≡◌, refl, sym, ◌∙◌, ◌^◌, ℤ, pos, ◌+ℤ◌, ◌*ℤ◌, ◌≤ℤ◌, ◌<ℤ◌, arith}
use Rattle.cov_types.specs.declared.seg.Seg.{Seg}
use Rattle.integer_laws.proofs.Ring.{lin, by_ring, Var, Lit, ◌⊕◌, ◌⊗◌}
use Rattle.integer_laws.proofs.Compare.{lt_excludes_le}
use Rattle.plane.specs.Point.{Point, at_coord, IsBetween}
use Rattle.plane.specs.Segment.{side}
use Rattle.plane.specs.Ray.{sweep}
use Rattle.plane.proofs.Forms.{form, form_positive-between, form_not_positive-between, form_not_negative-between, form_zero-between}
use Rattle.plane.proofs.Sides.{side-form, side_a, side_b, side_c}
use Rattle.plane.proofs.Sweeps.{sweep-form}
use Rattle.crossing_laws.proofs.Sides.{Misses}

-- a way strictly on the positive side of a line misses an edge that is not
pub parted_above : (a b c : ℤ) (f : Seg) (p q : Point) → pos 0 <ℤ form a b c p → pos 0 <ℤ form a b c q
    → form a b c (at_coord f.lo) ≤ℤ pos 0 → form a b c (at_coord f.hi) ≤ℤ pos 0 → Misses f p q
parted_above a b c f p q hp hq lo hi = record {
  none = λ r between on.
      lt_excludes_le (form_positive-between a b c r p q between hp hq) (form_not_positive-between a b c r (at_coord f.lo) (at_coord f.hi) on lo hi);
}

-- ---- x times the sweep value, y times the side of e and z, times the denominator

abbrev pub mix : (x y z : ℤ) → Seg → Point → ℤ
mix x y z e p = ((x *ℤ sweep p) +ℤ (y *ℤ side e p)) +ℤ (z *ℤ pos p.d)

abbrev mix_a : (x y : ℤ) → Seg → ℤ
mix_a x y e = (x *ℤ pos (2 ^ 30)) +ℤ (y *ℤ side_a e)

abbrev mix_b : (x y : ℤ) → Seg → ℤ
mix_b x y e = x +ℤ (y *ℤ side_b e)

abbrev mix_c : (y z : ℤ) → Seg → ℤ
mix_c y z e = (y *ℤ side_c e) +ℤ z

mix_of_forms : (x y z k a b c px py pd : ℤ)
    → (((((x *ℤ k) +ℤ (y *ℤ a)) *ℤ px) +ℤ ((x +ℤ (y *ℤ b)) *ℤ py)) +ℤ (((y *ℤ c) +ℤ z) *ℤ pd))
    ≡ ((x *ℤ (((k *ℤ px) +ℤ (pos 1 *ℤ py)) +ℤ (pos 0 *ℤ pd))) +ℤ (y *ℤ (((a *ℤ px) +ℤ (b *ℤ py)) +ℤ (c *ℤ pd)))) +ℤ (z *ℤ pd)
mix_of_forms x y z k a b c px py pd =
    by_ring (x ∷ y ∷ z ∷ k ∷ a ∷ b ∷ c ∷ px ∷ py ∷ pd ∷ [])
    ((Var 0 ⊗ Var 3 ⊕ Var 1 ⊗ Var 4) ⊗ Var 7 ⊕ (Var 0 ⊕ Var 1 ⊗ Var 5) ⊗ Var 8 ⊕ (Var 1 ⊗ Var 6 ⊕ Var 2) ⊗ Var 9)
    (Var 0 ⊗ (Var 3 ⊗ Var 7 ⊕ Lit (pos 1) ⊗ Var 8 ⊕ Lit (pos 0) ⊗ Var 9) ⊕ Var 1 ⊗ (Var 4 ⊗ Var 7 ⊕ Var 5 ⊗ Var 8 ⊕ Var 6 ⊗ Var 9) ⊕ Var 2 ⊗ Var 9) refl

-- it is a linear form
pub mix-form : (x y z : ℤ) (e : Seg) (p : Point) → form (mix_a x y e) (mix_b x y e) (mix_c y z e) p ≡ mix x y z e p
unfolding form
mix-form x y z e p =
    mix_of_forms x y z (pos (2 ^ 30)) (side_a e) (side_b e) (side_c e) p.x p.y (pos p.d)
    ∙ (λ i. ((x *ℤ sym (sweep-form p) i) +ℤ (y *ℤ sym (side-form e p) i)) +ℤ (z *ℤ pos p.d))

-- so its sign between two points is that at the points
pub mix_positive-between : (x y z : ℤ) (e : Seg) (r p q : Point) → IsBetween r p q → pos 0 <ℤ mix x y z e p → pos 0 <ℤ mix x y z e q → pos 0 <ℤ mix x y z e r
mix_positive-between x y z e r p q h hp hq =
    let at = mix-form x y z e in
    let k = form_positive-between (mix_a x y e) (mix_b x y e) (mix_c y z e) r p q h (omega (arith, lin, at p)) (omega (arith, lin, at q)) in
    omega (arith, lin, at r)

pub mix_not_positive-between : (x y z : ℤ) (e : Seg) (r p q : Point) → IsBetween r p q → mix x y z e p ≤ℤ pos 0 → mix x y z e q ≤ℤ pos 0 → mix x y z e r ≤ℤ pos 0
mix_not_positive-between x y z e r p q h hp hq =
    let at = mix-form x y z e in
    let k = form_not_positive-between (mix_a x y e) (mix_b x y e) (mix_c y z e) r p q h (omega (arith, lin, at p)) (omega (arith, lin, at q)) in
    omega (arith, lin, at r)

pub mix_not_negative-between : (x y z : ℤ) (e : Seg) (r p q : Point) → IsBetween r p q → pos 0 ≤ℤ mix x y z e p → pos 0 ≤ℤ mix x y z e q → pos 0 ≤ℤ mix x y z e r
mix_not_negative-between x y z e r p q h hp hq =
    let at = mix-form x y z e in
    let k = form_not_negative-between (mix_a x y e) (mix_b x y e) (mix_c y z e) r p q h (omega (arith, lin, at p)) (omega (arith, lin, at q)) in
    omega (arith, lin, at r)

pub mix_zero-between : (x y z : ℤ) (e : Seg) (r p q : Point) → IsBetween r p q → mix x y z e p ≡ pos 0 → mix x y z e q ≡ pos 0 → mix x y z e r ≡ pos 0
mix_zero-between x y z e r p q h hp hq =
    mix_form_zero (form_zero-between (mix_a x y e) (mix_b x y e) (mix_c y z e) r p q h (mix-form x y z e p ∙ hp) (mix-form x y z e q ∙ hq))
  where
    mix_form_zero : form (mix_a x y e) (mix_b x y e) (mix_c y z e) r ≡ pos 0 → mix x y z e r ≡ pos 0
    mix_form_zero k = sym (mix-form x y z e r) ∙ k

-- so a way strictly on the positive side of such a form misses an edge that is not
pub mix_parted : (x y z : ℤ) (e f : Seg) (p q : Point) → pos 0 <ℤ mix x y z e p → pos 0 <ℤ mix x y z e q
    → mix x y z e (at_coord f.lo) ≤ℤ pos 0 → mix x y z e (at_coord f.hi) ≤ℤ pos 0 → Misses f p q
mix_parted x y z e f p q hp hq lo hi = record {
  none = λ r between on. lt_excludes_le (mix_positive-between x y z e r p q between hp hq) (mix_not_positive-between x y z e r (at_coord f.lo) (at_coord f.hi) on lo hi);
}
