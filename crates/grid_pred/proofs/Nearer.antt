-- Which of two edges is nearer below a point, by how far each is below it.
use Rattle.std.proofs.Common.{◌≡◌, sym, ◌∙◌, ap, subst, ◌^◌, ℤ, pos, ◌*ℤ◌, ◌<ℤ◌, int_lt, IsTrue, ◌↔◌, inl, inr, FitsSigned, of_z, lit≤}
use Rattle.std.proofs.lemmas.Int.{to_z-of_z}
use mir.Syntax.{w64, w128}
use Rattle.integer_laws.proofs.Bound.{IsWithin, within_more}
use Rattle.integer_laws.proofs.Compare.{int_lt_is, lt_excludes_eq}
use Rattle.cov_types.specs.declared.coord.Coord.{Coord}
use Rattle.cov_types.specs.declared.seg.Seg.{Seg}
use Rattle.plane.specs.Point.{at_coord}
use Rattle.plane.specs.Segment.{side}
use Rattle.plane.specs.Below.{sweep_rise, IsNearer}
use Rattle.grid_pred.proofs.Small.{read, times_read, same_bits}

-- a turn times a rise, as the code computes it
pub depth_is : (s z r w d : ℤ) → s ≡ z → IsWithin (2 ^ 59) s → r ≡ w → IsWithin (2 ^ 60) r → d ≡ read w64 s *ℤ read w64 r → d ≡ z *ℤ w
depth_is s z r w d is_s hs is_r hr is = times_read d s r (within_more (lit≤ tt) hs) (within_more (lit≤ tt) hr) is ∙ (λ i. is_s i *ℤ is_r i)

module _ (v : Coord) (e f : Seg) (a b : ℤ) (fits_a : FitsSigned w128 a) (fits_b : FitsSigned w128 b)
    (is_a : a ≡ side e (at_coord v) *ℤ sweep_rise f) (is_b : b ≡ side f (at_coord v) *ℤ sweep_rise e) where
  -- as far below v: the edge that leads on above the other is nearer
  pub nearer_by_turn : of_z w128 a ≡ of_z w128 b → (t : ℤ) → t ≡ side f (at_coord e.hi) → IsTrue (int_lt (pos 0) t) ↔ IsNearer (at_coord v) e f
  nearer_by_turn h t turn =
      let even = sym is_a ∙ same_bits w128 a b fits_a fits_b h ∙ is_b in (
        λ k. inr (even, subst (λ z. pos 0 <ℤ z) turn ((int_lt_is (pos 0) t).0 k)),
        λ nearer. elim nearer [
          | inl less ↦ absurd (lt_excludes_eq less even)
          | inr above ↦ (int_lt_is (pos 0) t).1 (subst (λ z. pos 0 <ℤ z) (sym turn) above.1)
        ],
      )

  -- not as far: the one less far below
  pub nearer_by_depth : (of_z w128 a ≡ of_z w128 b → ⊥) → IsTrue (int_lt (read w128 a) (read w128 b)) ↔ IsNearer (at_coord v) e f
  nearer_by_depth other =
      let depth_of_e = to_z-of_z w128 a fits_a ∙ is_a in
      let depth_of_f = to_z-of_z w128 b fits_b ∙ is_b in (
        λ k. inl (subst (λ z. z <ℤ (side f (at_coord v) *ℤ sweep_rise e)) depth_of_e (subst (λ z. read w128 a <ℤ z) depth_of_f ((int_lt_is (read w128 a) (read w128 b)).0 k))),
        λ nearer. elim nearer [
          | inl less ↦ (int_lt_is (read w128 a) (read w128 b)).1 (subst (λ z. read w128 a <ℤ z) (sym depth_of_f) (subst (λ z. z <ℤ (side f (at_coord v) *ℤ sweep_rise e)) (sym depth_of_e) less))
          | inr above ↦ absurd (other (ap (of_z w128) (is_a ∙ above.0 ∙ sym is_b)))
        ],
      )
