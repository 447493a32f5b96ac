-- The side points of a segment that is free of a triangle are out of it.
use mathlib.Core.List.{[], ◌∷◌}
use Rattle.std.proofs.Common.{◌≡◌, inl, inr, refl, ◌+◌, ◌^◌, ℤ, pos, ◌+ℤ◌, ◌-ℤ◌, ◌*ℤ◌, ◌<ℤ◌, arith}
use Rattle.integer_laws.proofs.Compare.{trichotomy, le_of_lt}
use Rattle.integer_laws.proofs.Ring.{lin, by_ring, Var, Lit, ◌⊕◌, ◌⊖◌, ◌⊗◌, mul_one, mul_comm, pos_times}
use Rattle.cov_types.specs.declared.seg.Seg.{Seg}
use Rattle.cov_types.specs.Range.{IsSegInRange}
use Rattle.plane.specs.Point.{Point, at_coord, IsBetween}
use Rattle.plane.specs.Ray.{sweep, Rises}
use Rattle.plane.specs.Segment.{IsOn, IsEnd, midpoint, upper, lower}
use Rattle.plane.proofs.Points.{between-sym, first_between}
use Rattle.plane.proofs.Sweeps.{rises-in_range, sweep-same}
use Rattle.crossing_laws.proofs.Beside.{HaveOnlyEnds, side_points_clear}
use Rattle.greedy_run.specs.Run.{Triangle}
use Rattle.removal_laws.specs.Ear.{IsWithin, AreThreeSides, MeetsInEndsAlone, IsFreeOf}
use Rattle.removal_laws.proofs.Cuts.{between-trans, leave}
use Rattle.removal_laws.proofs.Ear.{ear}
use Rattle.removal_laws.proofs.Inner.{three-mirror, free_of-mirror, flat_third}
use Rattle.removal_laws.proofs.Inside.{area, to_a, to_b, to_c, within-inside, inside-within, on_first, on_second, on_third}
use Rattle.removal_laws.proofs.Pasch.{nested_on, on_between, mirror, area-mirror, within-mirror, pasch}

-- ---- the midpoint, between the side points

-- over plain variables: the middle of the two
middle_x : (lo hi : ℤ) → (lo +ℤ hi) *ℤ pos (2 ^ 64 + 2 ^ 64) ≡ pos 2 *ℤ ((pos 1 *ℤ ((pos (2 ^ 63) *ℤ (lo +ℤ hi)) +ℤ pos 1)) +ℤ (pos 1 *ℤ ((pos (2 ^ 63) *ℤ (lo +ℤ hi)) -ℤ pos 1)))
middle_x lo hi =
    by_ring (lo ∷ hi ∷ []) ((Var 0 ⊕ Var 1) ⊗ Lit (pos (2 ^ 64 + 2 ^ 64)))
    (Lit (pos 2) ⊗ (Lit (pos 1) ⊗ (Lit (pos (2 ^ 63)) ⊗ (Var 0 ⊕ Var 1) ⊕ Lit (pos 1)) ⊕ Lit (pos 1) ⊗ (Lit (pos (2 ^ 63)) ⊗ (Var 0 ⊕ Var 1) ⊖ Lit (pos 1)))) refl

middle_y : (lo hi : ℤ) → (lo +ℤ hi) *ℤ pos (2 ^ 64 + 2 ^ 64) ≡ pos 2 *ℤ ((pos 1 *ℤ ((pos (2 ^ 63) *ℤ (lo +ℤ hi)) -ℤ pos (2 ^ 30))) +ℤ (pos 1 *ℤ ((pos (2 ^ 63) *ℤ (lo +ℤ hi)) +ℤ pos (2 ^ 30))))
middle_y lo hi =
    by_ring (lo ∷ hi ∷ []) ((Var 0 ⊕ Var 1) ⊗ Lit (pos (2 ^ 64 + 2 ^ 64)))
    (Lit (pos 2) ⊗ (Lit (pos 1) ⊗ (Lit (pos (2 ^ 63)) ⊗ (Var 0 ⊕ Var 1) ⊖ Lit (pos (2 ^ 30))) ⊕ Lit (pos 1) ⊗ (Lit (pos (2 ^ 63)) ⊗ (Var 0 ⊕ Var 1) ⊕ Lit (pos (2 ^ 30))))) refl

middle_between : (s : Seg) → IsBetween (midpoint s) (lower s) (upper s)
middle_between s = record { first = 1; second = 1; weighted = omega arith; x = middle_x s.lo.x s.hi.x; y = middle_y s.lo.y s.hi.y }

middle_on : (s : Seg) → IsOn s (midpoint s)
middle_on s = record {
  first = 1;
  second = 1;
  weighted = omega arith;
  x = by_ring (s.lo.x ∷ s.hi.x ∷ []) ((Var 0 ⊕ Var 1) ⊗ Lit (pos 2)) (Lit (pos 2) ⊗ (Lit (pos 1) ⊗ Var 0 ⊕ Lit (pos 1) ⊗ Var 1)) refl;
  y = by_ring (s.lo.y ∷ s.hi.y ∷ []) ((Var 0 ⊕ Var 1) ⊗ Lit (pos 2)) (Lit (pos 2) ⊗ (Lit (pos 1) ⊗ Var 0 ⊕ Lit (pos 1) ⊗ Var 1)) refl;
}

sweep-middle : (s : Seg) → sweep (midpoint s) ≡ sweep (at_coord s.lo) +ℤ sweep (at_coord s.hi)
unfolding sweep
sweep-middle s =
    by_ring (s.lo.x ∷ s.lo.y ∷ s.hi.x ∷ s.hi.y ∷ []) (Lit (pos (2 ^ 30)) ⊗ (Var 0 ⊕ Var 2) ⊕ (Var 1 ⊕ Var 3))
    ((Lit (pos (2 ^ 30)) ⊗ Var 0 ⊕ Var 1) ⊕ (Lit (pos (2 ^ 30)) ⊗ Var 2 ⊕ Var 3)) refl

middle_no_end : (s : Seg) → Rises s → ¬ IsEnd s (midpoint s)
middle_no_end s up (inl same) = let e : sweep (midpoint s) *ℤ pos 1 ≡ sweep (at_coord s.lo) *ℤ pos 2 = sweep-same (midpoint s) (at_coord s.lo) same in omega (arith, lin, up, sweep-middle s, mul_one (sweep (midpoint s)), mul_comm (sweep (at_coord s.lo)) (pos 2), pos_times 2 (sweep (at_coord s.lo)))
middle_no_end s up (inr same) = let e : sweep (midpoint s) *ℤ pos 1 ≡ sweep (at_coord s.hi) *ℤ pos 2 = sweep-same (midpoint s) (at_coord s.hi) same in omega (arith, lin, up, sweep-middle s, mul_one (sweep (midpoint s)), mul_comm (sweep (at_coord s.hi)) (pos 2), pos_times 2 (sweep (at_coord s.hi)))

-- ---- a triangle to the left

module _ (t : Triangle) (ab bc ac : Seg) (sides : AreThreeSides t ab bc ac) (e : Seg) (he : IsSegInRange e) (free : IsFreeOf t ab bc e)
    (p : Point) (spread : (x : Point) → IsBetween x p (midpoint e) → IsBetween x (lower e) (upper e))
  where
    first_ends : HaveOnlyEnds e ab
    first_ends r common = free.first r common

    third_ends : HaveOnlyEnds e ac
    third_ends r common = ear t ab bc ac sides.two sides.third e free r common

    out_left : pos 0 <ℤ area t → ¬ IsWithin t p
    out_left positive within =
        let (x, exit) = leave (to_a t) (to_b t) (to_c t) p (midpoint e) (within-inside t p (le_of_lt positive) within)
        (λ inside. middle_no_end e (rises-in_range e he) (pasch t ab bc sides.two e free (midpoint e) (inside-within t (midpoint e) positive inside) (middle_on e)).is_end) in
        let between = spread x exit.between in
        elim exit.by [
          | inl second ↦
              (side_points_clear e bc he sides.two.second_in_range (λ r common. free.second r common)).none x between (on_between t.b t.c bc x sides.two.second (on_second t x positive exit.inside second.0))
          | inr more ↦ elim more [
            | inl third ↦ (side_points_clear e ac he sides.third_in_range third_ends).none x between (on_between t.a t.c ac x sides.third (on_third t x positive exit.inside third.0))
            | inr first ↦ (side_points_clear e ab he sides.two.first_in_range first_ends).none x between (on_between t.a t.b ab x sides.two.first (on_first t x positive exit.inside first.0))
          ]
        ]

module _ (t : Triangle) (ab bc ac : Seg) (sides : AreThreeSides t ab bc ac) (apart : MeetsInEndsAlone ab bc) (e : Seg) (he : IsSegInRange e) (free : IsFreeOf t ab bc e) where
  out : (p : Point) → ((x : Point) → IsBetween x p (midpoint e) → IsBetween x (lower e) (upper e)) → ¬ IsWithin t p
  out p spread within =
      elim (trichotomy (area t) (pos 0)) [
        | inl right ↦
            out_left (mirror t) bc ab ac (three-mirror t ab bc ac sides) e he (free_of-mirror t ab bc e free) p spread (let m = area-mirror t in omega (arith, lin)) (within-mirror t p within)
        | inr rest ↦ elim rest [
          | inl flat ↦
              (side_points_clear e ac he sides.third_in_range (third_ends t ab bc ac sides e he free p spread)).none p (spread p (first_between p (midpoint e))) (flat_third t ab bc ac sides apart flat p within)
          | inr left ↦ out_left t ab bc ac sides e he free p spread left within
        ]
      ]

  pub upper_out : ¬ IsWithin t (upper e)
  upper_out = out (upper e) (λ x between. nested_on x (midpoint e) (lower e) (upper e) (between-sym x (upper e) (midpoint e) between) (middle_between e))

  pub lower_out : ¬ IsWithin t (lower e)
  lower_out = out (lower e) (λ x between. between-trans x (lower e) (midpoint e) (upper e) between (middle_between e))
