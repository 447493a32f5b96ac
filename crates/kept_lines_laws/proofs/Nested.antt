-- Side points of a segment that is part of another one: they are joined with those of the other.
use mathlib.Core.List.{[], ◌∷◌}
use Rattle.std.proofs.Common.{◌≡◌, ◌⊎◌, inl, inr, refl, sym, ◌∙◌, ap, subst, ◌^◌, List, ℤ, pos, ◌+ℤ◌, ◌-ℤ◌, ◌*ℤ◌, ◌≤ℤ◌, ◌<ℤ◌, lit≤, arith}
use Rattle.std.specs.Prelude.{Contains}
use Rattle.integer_laws.proofs.Compare.{lt_excludes_eq}
use Rattle.integer_laws.proofs.Ring.{lin, by_ring, Var, Lit, ◌⊕◌, ◌⊖◌, ◌⊗◌, mul_one, one_mul, mul_comm, mul_zero, pos_times}
use Rattle.cov_types.specs.declared.seg.Seg.{Seg}
use Rattle.cov_types.specs.Range.{IsSegInRange}
use Rattle.plane.specs.Joined.{IsClear, Joined}
use Rattle.plane.specs.Point.{Point, at_coord, IsBetween}
use Rattle.plane.specs.Ray.{sweep}
use Rattle.plane.specs.Segment.{side, upper, IsOn}
use Rattle.plane.proofs.Forms.{form_positive-between}
use Rattle.plane.proofs.Sides.{side_a, side_b, side_c, side-form, side-lo, side-hi, side_zero-on}
use Rattle.plane.proofs.Sweeps.{rises-in_range, on-is}
use Rattle.crossing_laws.proofs.Beside.{HaveOnlyEnds, rise, side-upper}
use Rattle.crossing_laws.proofs.Ways.{joined_by_clear, joined-trans}
use Rattle.sector_laws.proofs.Sliver.{IsFlat, IsInSliver, sliver-between, sliver_numbers, sliver_from_numbers, sliver_free, rise_within, upper_in_sliver}

-- a point just above the middle of the segment, much nearer than its upper side point
abbrev just_above : Seg → Point
just_above f = record { x = (pos (2 ^ 123) *ℤ (f.lo.x +ℤ f.hi.x)) -ℤ pos 1; y = (pos (2 ^ 123) *ℤ (f.lo.y +ℤ f.hi.y)) +ℤ pos (2 ^ 30); d = 2 ^ 124; positive = lit≤ tt }

sweep-just_above : (f : Seg) → sweep (just_above f) ≡ pos (2 ^ 123) *ℤ (sweep (at_coord f.lo) +ℤ sweep (at_coord f.hi))
unfolding sweep
sweep-just_above f =
    by_ring (f.lo.x ∷ f.lo.y ∷ f.hi.x ∷ f.hi.y ∷ [])
    (Lit (pos (2 ^ 30)) ⊗ (Lit (pos (2 ^ 123)) ⊗ (Var 0 ⊕ Var 2) ⊖ Lit (pos 1)) ⊕ (Lit (pos (2 ^ 123)) ⊗ (Var 1 ⊕ Var 3) ⊕ Lit (pos (2 ^ 30))))
    (Lit (pos (2 ^ 123)) ⊗ ((Lit (pos (2 ^ 30)) ⊗ Var 0 ⊕ Var 1) ⊕ (Lit (pos (2 ^ 30)) ⊗ Var 2 ⊕ Var 3))) refl

side-just_above : (e f : Seg) → side e (just_above f) ≡ (pos (2 ^ 123) *ℤ (side e (at_coord f.lo) +ℤ side e (at_coord f.hi))) +ℤ rise e
unfolding sweep side
side-just_above e f =
    by_ring (e.lo.x ∷ e.lo.y ∷ e.hi.x ∷ e.hi.y ∷ f.lo.x ∷ f.lo.y ∷ f.hi.x ∷ f.hi.y ∷ [])
    ((Var 2 ⊖ Var 0) ⊗ ((Lit (pos (2 ^ 123)) ⊗ (Var 5 ⊕ Var 7) ⊕ Lit (pos (2 ^ 30))) ⊖ Var 1 ⊗ Lit (pos (2 ^ 124))) ⊖ (Var 3 ⊖ Var 1) ⊗ ((Lit (pos (2 ^ 123)) ⊗ (Var 4 ⊕ Var 6) ⊖ Lit (pos 1)) ⊖ Var 0 ⊗ Lit (pos (2 ^ 124))))
    (Lit (pos (2 ^ 123)) ⊗ (((Var 2 ⊖ Var 0) ⊗ (Var 5 ⊖ Var 1 ⊗ Lit (pos 1)) ⊖ (Var 3 ⊖ Var 1) ⊗ (Var 4 ⊖ Var 0 ⊗ Lit (pos 1))) ⊕ ((Var 2 ⊖ Var 0) ⊗ (Var 7 ⊖ Var 1 ⊗ Lit (pos 1)) ⊖ (Var 3 ⊖ Var 1) ⊗ (Var 6 ⊖ Var 0 ⊗ Lit (pos 1))))
    ⊕ ((Lit (pos (2 ^ 30)) ⊗ Var 2 ⊕ Var 3) ⊖ (Lit (pos (2 ^ 30)) ⊗ Var 0 ⊕ Var 1))) refl

-- over plain variables: at the height g, no more than 2^60, over the middle from a to b within l to h
near_middle : (g l h a b : ℤ) → pos 0 <ℤ g → g ≤ℤ pos (2 ^ 60) → l ≤ℤ a → a <ℤ b → b ≤ℤ h → IsFlat g (pos (2 ^ 123) *ℤ (a +ℤ b)) (pos (2 ^ 124)) l h
near_middle g l h a b positive small from less to = record {
  beside = positive;
  after_lo = omega (arith, lin, pos_times (2 ^ 60) g, pos_times (2 ^ 123) (a +ℤ b), mul_comm l (pos (2 ^ 124)), pos_times (2 ^ 124) l);
  before_hi = omega (arith, lin, pos_times (2 ^ 60) g, pos_times (2 ^ 123) (a +ℤ b), mul_comm h (pos (2 ^ 124)), pos_times (2 ^ 124) h);
}

module _ (e f : Seg) (he : IsSegInRange e) (hf : IsSegInRange f) (on_lo : IsOn e (at_coord f.lo)) (on_hi : IsOn e (at_coord f.hi)) where
  -- the point is in the flat triangles of both
  in_own : IsInSliver (pos 1) f (just_above f)
  in_own =
      let up = rises-in_range f hf in
      let level : side f (just_above f) ≡ rise f =
      side-just_above f f ∙ ap (λ z. (pos (2 ^ 123) *ℤ z) +ℤ rise f) ((λ i. side-lo f i +ℤ side-hi f i)) ∙ ap (λ z. z +ℤ rise f) (mul_zero (pos (2 ^ 123))) ∙ omega (arith, lin) in
      sliver_from_numbers (pos 1) f (just_above f)
      (rw (one_mul (side f (just_above f)), level, sweep-just_above f)
      (near_middle (rise f) (sweep (at_coord f.lo)) (sweep (at_coord f.hi)) (sweep (at_coord f.lo)) (sweep (at_coord f.hi)) (omega (arith, lin)) (rise_within f hf).high (omega (arith, lin)) up (omega (arith, lin))))

  in_other : IsInSliver (pos 1) e (just_above f)
  in_other =
      let up = rises-in_range e he in
      let up_f = rises-in_range f hf in
      let level : side e (just_above f) ≡ rise e =
      side-just_above e f ∙ ap (λ z. (pos (2 ^ 123) *ℤ z) +ℤ rise e) ((λ i. side_zero-on e (at_coord f.lo) on_lo i +ℤ side_zero-on e (at_coord f.hi) on_hi i)) ∙ ap (λ z. z +ℤ rise e) (mul_zero (pos (2 ^ 123))) ∙ omega (arith, lin) in
      let from = ((on-is e (at_coord f.lo) up).0 on_lo).1 in
      let to = ((on-is e (at_coord f.hi) up).0 on_hi).2 in
      sliver_from_numbers (pos 1) e (just_above f)
      (rw (one_mul (side e (just_above f)), level, sweep-just_above f)
      (near_middle (rise e) (sweep (at_coord e.lo)) (sweep (at_coord e.hi)) (sweep (at_coord f.lo)) (sweep (at_coord f.hi)) (omega (arith, lin)) (rise_within e he).high
      (omega (arith, lin, mul_one (sweep (at_coord e.lo)))) up_f (omega (arith, lin, mul_one (sweep (at_coord e.hi))))))

  -- the upper side point of f, over e
  level_upper : side e (upper f) ≡ (pos (2 ^ 63) *ℤ (side e (at_coord f.lo) +ℤ side e (at_coord f.hi))) +ℤ rise e
  unfolding sweep side
  level_upper =
      by_ring (e.lo.x ∷ e.lo.y ∷ e.hi.x ∷ e.hi.y ∷ f.lo.x ∷ f.lo.y ∷ f.hi.x ∷ f.hi.y ∷ [])
      ((Var 2 ⊖ Var 0) ⊗ ((Lit (pos (2 ^ 63)) ⊗ (Var 5 ⊕ Var 7) ⊕ Lit (pos (2 ^ 30))) ⊖ Var 1 ⊗ Lit (pos (2 ^ 64))) ⊖ (Var 3 ⊖ Var 1) ⊗ ((Lit (pos (2 ^ 63)) ⊗ (Var 4 ⊕ Var 6) ⊖ Lit (pos 1)) ⊖ Var 0 ⊗ Lit (pos (2 ^ 64))))
      (Lit (pos (2 ^ 63)) ⊗ (((Var 2 ⊖ Var 0) ⊗ (Var 5 ⊖ Var 1 ⊗ Lit (pos 1)) ⊖ (Var 3 ⊖ Var 1) ⊗ (Var 4 ⊖ Var 0 ⊗ Lit (pos 1))) ⊕ ((Var 2 ⊖ Var 0) ⊗ (Var 7 ⊖ Var 1 ⊗ Lit (pos 1)) ⊖ (Var 3 ⊖ Var 1) ⊗ (Var 6 ⊖ Var 0 ⊗ Lit (pos 1))))
      ⊕ ((Lit (pos (2 ^ 30)) ⊗ Var 2 ⊕ Var 3) ⊖ (Lit (pos (2 ^ 30)) ⊗ Var 0 ⊕ Var 1))) refl

  pub upper_above : pos 0 <ℤ side e (upper f)
  upper_above =
      let up = rises-in_range e he in
      let level : side e (upper f) ≡ rise e =
      level_upper ∙ ap (λ z. (pos (2 ^ 63) *ℤ z) +ℤ rise e) ((λ i. side_zero-on e (at_coord f.lo) on_lo i +ℤ side_zero-on e (at_coord f.hi) on_hi i)) ∙ ap (λ z. z +ℤ rise e) (mul_zero (pos (2 ^ 63))) ∙ omega (arith, lin) in
      omega (arith, lin)

  above_just : pos 0 <ℤ side e (just_above f)
  above_just = let s = (sliver_numbers (pos 1) e (just_above f) in_other).beside in omega (arith, lin, one_mul (side e (just_above f)))

  -- a point above e is not on it
  off_between : (r p q : Point) → IsBetween r p q → pos 0 <ℤ side e p → pos 0 <ℤ side e q → IsOn e r → ⊥
  off_between r p q between hp hq on =
      let at = form_positive-between (side_a e) (side_b e) (side_c e) r p q between (omega (arith, lin, side-form e p)) (omega (arith, lin, side-form e q)) in
      lt_excludes_eq at (sym (sym (side-form e r) ∙ side_zero-on e r on))

  -- where all meet both in ends alone, or are e
  pub nested_joined : (edges : List Seg) → ((g : Seg) → Contains edges g → IsSegInRange g) → ((g : Seg) → Contains edges g → (g ≡ e) ⊎ (HaveOnlyEnds e g × HaveOnlyEnds f g)) → Joined edges (upper f) (upper e)
  nested_joined edges range others = joined-trans edges (upper f) (just_above f) (upper e) (joined_by_clear edges (upper f) (just_above f) down) (joined_by_clear edges (just_above f) (upper e) on)
    where
      down : IsClear edges (upper f) (just_above f)
      down = λ g has r between at.
          elim (others g has) [
            | inl same ↦ off_between r (upper f) (just_above f) between upper_above above_just (subst (λ s. IsOn s r) same at)
            | inr ends ↦ sliver_free (pos 1) f g r hf (range g has) ends.1 (sliver-between (pos 1) f r (upper f) (just_above f) between (upper_in_sliver f (rises-in_range f hf)) in_own) at
          ]

      on : IsClear edges (just_above f) (upper e)
      on = λ g has r between at.
          elim (others g has) [
            | inl same ↦ off_between r (just_above f) (upper e) between above_just (let up = rises-in_range e he in omega (arith, lin, side-upper e)) (subst (λ s. IsOn s r) same at)
            | inr ends ↦ sliver_free (pos 1) e g r he (range g has) ends.0 (sliver-between (pos 1) e r (just_above f) (upper e) between in_other (upper_in_sliver e (rises-in_range e he))) at
          ]
