-- Points of the triangle off ac are joined with one another, and with points out of it, round ac and all that is free of it.
use mathlib.Core.List.{[], ◌∷◌}
use Rattle.std.proofs.Common.{◌≡◌, ◌⊎◌, inl, inr, refl, sym, ◌∙◌, ap, subst, ◌^◌, List, Contains, ◌+◌, ℤ, pos, neg_ℤ, ◌+ℤ◌, ◌-ℤ◌, ◌*ℤ◌, ◌<ℤ◌, ⊎_elim, arith}
use Rattle.integer_laws.proofs.Ring.{lin, by_ring, Var, Lit, ◌⊕◌, ◌⊖◌, ◌⊗◌, mul_one}
use Rattle.integer_laws.proofs.Compare.{lt_or_ge, le_of_lt, lt_excludes_le, lt_excludes_eq, trichotomy}
use Rattle.cov_types.specs.declared.coord.Coord.{Coord}
use Rattle.cov_types.specs.declared.seg.Seg.{Seg}
use Rattle.cov_types.specs.Range.{IsSegInRange}
use Rattle.cov_types.specs.Seg.{IsSegBetween}
use Rattle.plane.specs.Joined.{IsClear, Joined}
use Rattle.plane.specs.Point.{Point, SamePoint, IsBetween, at_coord}
use Rattle.plane.specs.Ray.{sweep}
use Rattle.plane.specs.Segment.{IsOn, IsEnd, midpoint, upper, lower}
use Rattle.plane.proofs.Forms.{form, form_positive-between, form_not_negative-between, form_zero-between}
use Rattle.plane.proofs.Points.{between-sym, same_point-sym, first_between, second_between}
use Rattle.plane.proofs.Sides.{side-form}
use Rattle.plane.proofs.Sweeps.{rises-in_range, sweep-same}
use Rattle.crossing_laws.proofs.Beside.{HaveOnlyEnds, side-upper, side-lower, side_points_clear}
use Rattle.crossing_laws.proofs.Ways.{joined_by_clear, joined-trans}
use Rattle.greedy_run.specs.Run.{Triangle}
use Rattle.removal_laws.specs.Ear.{IsWithin, AreThreeSides, MeetsInEndsAlone, IsFreeOf, IsOther}
use Rattle.removal_laws.proofs.Cuts.{HalfPlane, depth, between-trans, zero-same}
use Rattle.removal_laws.proofs.Inside.{left_of, left-first, left-second, left-exchanged, area, to_a, to_b, to_c, depth-a, depth-b, depth-c, within-inside, inside-within, within_not_negative, within_not_positive, on_third, first_corner, inside_or_not}
use Rattle.removal_laws.proofs.Pasch.{nested_on, IsUpwards, upwards_of, on_by_sweep, on_between, sweep_least, sweep_most, mirror, area-mirror, within-mirror, free-mirror, not_third-mirror, pasch}
use Rattle.removal_laws.proofs.Ear.{within_first, between_ends, end_of}

-- ---- the mirror

pub three-mirror : (t : Triangle) (ab bc ac : Seg) → AreThreeSides t ab bc ac → AreThreeSides (mirror t) bc ab ac
three-mirror t ab bc ac h = record {
  two = record { first = ⊎_elim inr inl h.two.second; second = ⊎_elim inr inl h.two.first; first_in_range = h.two.second_in_range; second_in_range = h.two.first_in_range };
  third = ⊎_elim inr inl h.third;
  third_in_range = h.third_in_range;
}

pub free_of-mirror : (t : Triangle) (ab bc s : Seg) → IsFreeOf t ab bc s → IsFreeOf (mirror t) bc ab s
free_of-mirror t ab bc s h = record {
  first = h.second;
  second = h.first;
  free = record { not_third = not_third-mirror t s h.free.not_third; lo = free-mirror t s.lo h.free.lo; hi = free-mirror t s.hi h.free.hi };
}

-- ---- a triangle to the left

-- a point of the triangle off ac is strictly on b's side of it
off_third : (t : Triangle) (ac : Seg) → IsSegBetween t.a t.c ac → pos 0 <ℤ area t → (p : Point) → IsWithin t p → ¬ IsOn ac p → pos 0 <ℤ depth (to_b t) p
off_third t ac is_ac positive p within off =
    let inside = within-inside t p (le_of_lt positive) within in
    elim (lt_or_ge (pos 0) (depth (to_b t) p)) [
      | inl above ↦ above
      | inr on ↦ absurd (off (on_between t.a t.c ac p is_ac (on_third t p positive inside (let low = inside.second in omega (arith, lin)))))
    ]

-- the points of ac are on its line
third_line : (t : Triangle) (ac : Seg) → IsSegBetween t.a t.c ac → (p : Point) → IsOn ac p → depth (to_b t) p ≡ pos 0
third_line t ac is_ac p on =
    let l = to_b t in
    form_zero-between l.a l.b l.c p (at_coord t.a) (at_coord t.c) (between_ends t.a t.c ac p is_ac on) (left-second t.c t.a) (left-first t.c t.a)

-- the triangle is convex
within_between : (t : Triangle) → pos 0 <ℤ area t → (r p q : Point) → IsBetween r p q → IsWithin t p → IsWithin t q → IsWithin t r
within_between t positive r p q between wp wq =
    let ip = within-inside t p (le_of_lt positive) wp in
    let iq = within-inside t q (le_of_lt positive) wq in
    let a = to_a t in
    let b = to_b t in
    let c = to_c t in
    inside-within t r positive (record {
      first = form_not_negative-between a.a a.b a.c r p q between ip.first iq.first;
      second = form_not_negative-between b.a b.b b.c r p q between ip.second iq.second;
      third = form_not_negative-between c.a c.b c.c r p q between ip.third iq.third;
    })

module _ (t : Triangle) (ab bc ac : Seg) (sides : AreThreeSides t ab bc ac) (edges : List Seg) (others : (e : Seg) → Contains edges e → IsOther t ab bc ac e) where
  -- nothing comes between two points of the triangle off ac
  inner_left : pos 0 <ℤ area t → (p q : Point) → IsWithin t p → ¬ IsOn ac p → IsWithin t q → ¬ IsOn ac q → IsClear edges p q
  inner_left positive p q wp off_p wq off_q = λ e has r between on.
      let b = to_b t in
      let above = form_positive-between b.a b.b b.c r p q between (off_third t ac sides.third positive p wp off_p) (off_third t ac sides.third positive q wq off_q) in
      let away = λ (v : Coord) (at_v : depth b (at_coord v) ≡ pos 0) (same : SamePoint (at_coord v) r). lt_excludes_eq above (sym (zero-same b (at_coord v) r same at_v)) in
      elim (others e has) [
        | inl is ↦ lt_excludes_eq above (sym (third_line t ac sides.third r (subst (λ s. IsOn s r) is on)))
        | inr free ↦ ⊎_elim
            (λ same. away t.a (left-second t.c t.a) (same_point-sym r (at_coord t.a) same))
            (λ same. away t.c (left-first t.c t.a) (same_point-sym r (at_coord t.c) same))
            (pasch t ab bc sides.two e free r (within_between t positive r p q between wp wq) on).corner
      ]

  -- ---- past the middle of ab

  -- each meets ab in ends alone
  beside_first : pos 0 <ℤ area t → (e : Seg) → Contains edges e → HaveOnlyEnds ab e
  beside_first positive e has = λ r common.
      elim (others e has) [
        | inr free ↦ (let ends = free.first r (common.1, common.0) in (ends.1, ends.0))
        | inl is ↦ (
            let on_third_line = third_line t ac sides.third r (subst (λ s. IsOn s r) is common.1) in
            let c = to_c t in
            let on_first_line = form_zero-between c.a c.b c.c r (at_coord t.a) (at_coord t.b) (between_ends t.a t.b ab r sides.two.first common.0) (left-first t.a t.b) (left-second t.a t.b) in
            let same = first_corner t r positive on_third_line on_first_line in
            (end_of t.a t.b ab r sides.two.first (inl same), subst (λ s. IsEnd s r) (sym is) (end_of t.a t.c ac r sides.third (inl same)))
            )
      ]

depth-midpoint : (l : HalfPlane) (s : Seg) → depth l (midpoint s) ≡ depth l (at_coord s.lo) +ℤ depth l (at_coord s.hi)
unfolding form
depth-midpoint l s =
    by_ring (l.a ∷ l.b ∷ l.c ∷ s.lo.x ∷ s.lo.y ∷ s.hi.x ∷ s.hi.y ∷ [])
    ((Var 0 ⊗ (Var 3 ⊕ Var 5) ⊕ Var 1 ⊗ (Var 4 ⊕ Var 6)) ⊕ Var 2 ⊗ Lit (pos 2))
    (((Var 0 ⊗ Var 3 ⊕ Var 1 ⊗ Var 4) ⊕ Var 2 ⊗ Lit (pos 1)) ⊕ ((Var 0 ⊗ Var 5 ⊕ Var 1 ⊗ Var 6) ⊕ Var 2 ⊗ Lit (pos 1))) refl

midpoint_on : (s : Seg) → IsOn s (midpoint s)
midpoint_on s = record {
  first = 1;
  second = 1;
  weighted = omega arith;
  x = by_ring (s.lo.x ∷ s.hi.x ∷ []) ((Var 0 ⊕ Var 1) ⊗ Lit (pos 2)) (Lit (pos 2) ⊗ (Lit (pos 1) ⊗ Var 0 ⊕ Lit (pos 1) ⊗ Var 1)) refl;
  y = by_ring (s.lo.y ∷ s.hi.y ∷ []) ((Var 0 ⊕ Var 1) ⊗ Lit (pos 2)) (Lit (pos 2) ⊗ (Lit (pos 1) ⊗ Var 0 ⊕ Lit (pos 1) ⊗ Var 1)) refl;
}

-- over plain variables: the middle of the two side points
middle_x : (lo hi : ℤ) → (lo +ℤ hi) *ℤ pos (2 ^ 64 + 2 ^ 64) ≡ pos 2 *ℤ ((pos 1 *ℤ ((pos (2 ^ 63) *ℤ (lo +ℤ hi)) +ℤ pos 1)) +ℤ (pos 1 *ℤ ((pos (2 ^ 63) *ℤ (lo +ℤ hi)) -ℤ pos 1)))
middle_x lo hi =
    by_ring (lo ∷ hi ∷ []) ((Var 0 ⊕ Var 1) ⊗ Lit (pos (2 ^ 64 + 2 ^ 64)))
    (Lit (pos 2) ⊗ (Lit (pos 1) ⊗ (Lit (pos (2 ^ 63)) ⊗ (Var 0 ⊕ Var 1) ⊕ Lit (pos 1)) ⊕ Lit (pos 1) ⊗ (Lit (pos (2 ^ 63)) ⊗ (Var 0 ⊕ Var 1) ⊖ Lit (pos 1)))) refl

middle_y : (lo hi : ℤ) → (lo +ℤ hi) *ℤ pos (2 ^ 64 + 2 ^ 64) ≡ pos 2 *ℤ ((pos 1 *ℤ ((pos (2 ^ 63) *ℤ (lo +ℤ hi)) -ℤ pos (2 ^ 30))) +ℤ (pos 1 *ℤ ((pos (2 ^ 63) *ℤ (lo +ℤ hi)) +ℤ pos (2 ^ 30))))
middle_y lo hi =
    by_ring (lo ∷ hi ∷ []) ((Var 0 ⊕ Var 1) ⊗ Lit (pos (2 ^ 64 + 2 ^ 64)))
    (Lit (pos 2) ⊗ (Lit (pos 1) ⊗ (Lit (pos (2 ^ 63)) ⊗ (Var 0 ⊕ Var 1) ⊖ Lit (pos (2 ^ 30))) ⊕ Lit (pos 1) ⊗ (Lit (pos (2 ^ 63)) ⊗ (Var 0 ⊕ Var 1) ⊕ Lit (pos (2 ^ 30))))) refl

midpoint_beside : (s : Seg) → IsBetween (midpoint s) (lower s) (upper s)
midpoint_beside s = record { first = 1; second = 1; weighted = omega arith; x = middle_x s.lo.x s.hi.x; y = middle_y s.lo.y s.hi.y }

-- ---- a flat triangle is ac

flat_on_third : (t : Triangle) → area t ≡ pos 0 → (r : Point) → IsWithin t r → depth (left_of t.a t.c) r ≡ pos 0
flat_on_third t flat r h =
    let first = left-first t.c t.a in
    let second = left-second t.c t.a in
    let third = depth-b t in
    let low = within_not_negative (to_b t) t r h (omega (arith, lin)) (omega (arith, lin)) (omega (arith, lin)) in
    let high = within_not_positive (to_b t) t r h (omega (arith, lin)) (omega (arith, lin)) (omega (arith, lin)) in
    let back = left-exchanged t.c t.a r in
    omega (arith, lin)

-- a grid point with another sweep value than both ends is no end
no_end : (a b : Coord) (e : Seg) (v : Coord) → IsSegBetween a b e → IsEnd e (at_coord v) → ¬ (sweep (at_coord v) ≡ sweep (at_coord a)) → ¬ (sweep (at_coord v) ≡ sweep (at_coord b)) → ⊥
no_end a b e v is ends not_a not_b = at is ends
  where
    same : (w u : Coord) → w ≡ u → SamePoint (at_coord v) (at_coord w) → sweep (at_coord v) ≡ sweep (at_coord u)
    same w u eq h = let s = sweep-same (at_coord v) (at_coord w) h in omega (arith, lin, mul_one (sweep (at_coord v)), mul_one (sweep (at_coord w)), ap (λ (c : Coord). sweep (at_coord c)) eq)

    at : IsSegBetween a b e → IsEnd e (at_coord v) → ⊥
    at (inl (lo, hi)) (inl h) = not_a (same e.lo a lo h)
    at (inl (lo, hi)) (inr h) = not_b (same e.hi b hi h)
    at (inr (lo, hi)) (inl h) = not_b (same e.lo b lo h)
    at (inr (lo, hi)) (inr h) = not_a (same e.hi a hi h)

flat_upwards : (t : Triangle) (ab bc ac : Seg) → AreThreeSides t ab bc ac → MeetsInEndsAlone ab bc → area t ≡ pos 0 → IsUpwards t.a t.c ac
    → (p : Point) → IsWithin t p → IsOn ac p
flat_upwards t ab bc ac sides apart flat up p within =
    let a = sweep (at_coord t.a) in
    let b = sweep (at_coord t.b) in
    let c = sweep (at_coord t.c) in
    let rises = up.rises in
    let up_ab = rises-in_range ab sides.two.first_in_range in
    let up_bc = rises-in_range bc sides.two.second_in_range in
    let one_a = mul_one a in
    let one_b = mul_one b in
    let one_c = mul_one c in
    elim (lt_or_ge b a) [
      | inl before ↦ elim (upwards_of t.b t.c bc up_bc sides.two.second) [
        | inr down ↦ absurd (let h = down.rises in omega (arith, lin))
        | inl is_up ↦ absurd (
            let on_bc = on_by_sweep t.b t.c bc (at_coord t.a) up_bc is_up (depth-a t ∙ flat) (omega (arith, lin)) (omega (arith, lin)) in
            let on_ab = on_between t.a t.b ab (at_coord t.a) sides.two.first (first_between (at_coord t.a) (at_coord t.b)) in
            no_end t.b t.c bc t.a sides.two.second (apart (at_coord t.a) (on_ab, on_bc)).1 (λ e. omega (arith, lin)) (λ e. omega (arith, lin))
            )
      ]
      | inr from ↦ elim (lt_or_ge c b) [
        | inl past ↦ elim (upwards_of t.a t.b ab up_ab sides.two.first) [
          | inr down ↦ absurd (let h = down.rises in omega (arith, lin))
          | inl is_up ↦ absurd (
              let on_ab = on_by_sweep t.a t.b ab (at_coord t.c) up_ab is_up (depth-c t ∙ flat) (omega (arith, lin)) (omega (arith, lin)) in
              let on_bc = on_between t.b t.c bc (at_coord t.c) sides.two.second (second_between (at_coord t.b) (at_coord t.c)) in
              no_end t.a t.b ab t.c sides.two.first (apart (at_coord t.c) (on_ab, on_bc)).0 (λ e. omega (arith, lin)) (λ e. omega (arith, lin))
              )
        ]
        | inr to ↦
            on_by_sweep t.a t.c ac p (rises-in_range ac sides.third_in_range) up (flat_on_third t flat p within)
            (sweep_least t p within a (omega (arith, lin)) (omega (arith, lin)) (omega (arith, lin)))
            (sweep_most t p within c (omega (arith, lin)) (omega (arith, lin)) (omega (arith, lin)))
      ]
    ]

-- where ab and bc meet in ends alone, b is between a and c
pub flat_third : (t : Triangle) (ab bc ac : Seg) → AreThreeSides t ab bc ac → MeetsInEndsAlone ab bc → area t ≡ pos 0 → (p : Point) → IsWithin t p → IsOn ac p
flat_third t ab bc ac sides apart flat p within =
    elim (upwards_of t.a t.c ac (rises-in_range ac sides.third_in_range) sides.third) [
      | inl up ↦ flat_upwards t ab bc ac sides apart flat up p within
      | inr down ↦
          flat_upwards (mirror t) bc ab ac (three-mirror t ab bc ac sides) (λ r common. (let ends = apart r (common.1, common.0) in (ends.1, ends.0)))
          (area-mirror t ∙ ap neg_ℤ flat) down p (within-mirror t p within)
    ]

others-mirror : (t : Triangle) (ab bc ac : Seg) (e : Seg) → IsOther t ab bc ac e → IsOther (mirror t) bc ab ac e
others-mirror t ab bc ac e h = elim h [ inl is ↦ inl is | inr free ↦ inr (free_of-mirror t ab bc e free) ]

-- any two points of the triangle off ac are joined by one step
pub inner : (t : Triangle) (ab bc ac : Seg) → AreThreeSides t ab bc ac → MeetsInEndsAlone ab bc
    → (edges : List Seg) → ((e : Seg) → Contains edges e → IsOther t ab bc ac e)
    → (p q : Point) → IsWithin t p → ¬ IsOn ac p → IsWithin t q → ¬ IsOn ac q → IsClear edges p q
inner t ab bc ac sides apart edges others p q wp off_p wq off_q =
    elim (trichotomy (area t) (pos 0)) [
      | inl right ↦
          inner_left (mirror t) bc ab ac (three-mirror t ab bc ac sides) edges (λ e has. others-mirror t ab bc ac e (others e has))
          (let m = area-mirror t in omega (arith, lin)) p q (within-mirror t p wp) off_p (within-mirror t q wq) off_q
      | inr rest ↦ elim rest [
        | inl flat ↦ absurd (off_p (flat_third t ab bc ac sides apart flat p wp))
        | inr left ↦ inner_left t ab bc ac sides edges others left p q wp off_p wq off_q
      ]
    ]

-- ---- out of the triangle

-- x is out of the triangle and joined with p
pub record IsWayOut (t : Triangle) (edges : List Seg) (p x : Point) : Type 0 where
  pub joined : Joined edges p x
  pub outside : ¬ IsWithin t x

clear_to_upper : (e f : Seg) → IsSegInRange e → IsSegInRange f → HaveOnlyEnds e f → (r : Point) → IsBetween r (midpoint e) (upper e) → IsOn f r → ⊥
clear_to_upper e f he hf ends r between on = (side_points_clear e f he hf ends).none r (nested_on r (midpoint e) (lower e) (upper e) between (midpoint_beside e)) on

clear_to_lower : (e f : Seg) → IsSegInRange e → IsSegInRange f → HaveOnlyEnds e f → (r : Point) → IsBetween r (midpoint e) (lower e) → IsOn f r → ⊥
clear_to_lower e f he hf ends r between on =
    (side_points_clear e f he hf ends).none r (between-trans r (lower e) (midpoint e) (upper e) (between-sym r (midpoint e) (lower e) between) (midpoint_beside e)) on

-- the far side of ab is out of the triangle
beyond_first : (t : Triangle) → pos 0 <ℤ area t → (x : Point) → depth (to_c t) x <ℤ pos 0 → ¬ IsWithin t x
beyond_first t positive x beyond within = lt_excludes_le beyond (within-inside t x (le_of_lt positive) within).third

-- the midpoint of ab is off ac
midpoint_off : (t : Triangle) (ab bc ac : Seg) → AreThreeSides t ab bc ac → pos 0 <ℤ area t → ¬ IsOn ac (midpoint ab)
midpoint_off t ab bc ac sides positive on =
    let zero = third_line t ac sides.third (midpoint ab) on in
    let sum = depth-midpoint (to_b t) ab in
    let at_a = left-second t.c t.a in
    let at_b = depth-b t in
    elim sides.two.first [
      | inl up ↦ (
          let lo = ap (λ (v : Coord). depth (to_b t) (at_coord v)) up.0 in
          let hi = ap (λ (v : Coord). depth (to_b t) (at_coord v)) up.1 in
          omega (arith, lin)
          )
      | inr down ↦ (
          let lo = ap (λ (v : Coord). depth (to_b t) (at_coord v)) down.0 in
          let hi = ap (λ (v : Coord). depth (to_b t) (at_coord v)) down.1 in
          omega (arith, lin)
          )
    ]

way_out_left : (t : Triangle) (ab bc ac : Seg) → AreThreeSides t ab bc ac
    → (edges : List Seg) → ((e : Seg) → Contains edges e → IsOther t ab bc ac e) → ((e : Seg) → Contains edges e → IsSegInRange e)
    → pos 0 <ℤ area t → (p : Point) → IsWithin t p → ¬ IsOn ac p → (x : Point) × IsWayOut t edges p x
way_out_left t ab bc ac sides edges others range positive p within off =
    let m = midpoint ab in
    let he = sides.two.first_in_range in
    let up_ab = rises-in_range ab he in
    let within_m = within_first t m (between_ends t.a t.b ab m sides.two.first (midpoint_on ab)) in
    let to_m = joined_by_clear edges p m (inner_left t ab bc ac sides edges others positive p m within off within_m (midpoint_off t ab bc ac sides positive)) in
    let beside = beside_first t ab bc ac sides edges others positive in
    elim (upwards_of t.a t.b ab up_ab sides.two.first) [
      | inl up ↦ (
        lower ab,
        record {
          joined = joined-trans edges p m (lower ab) to_m (joined_by_clear edges m (lower ab) (λ e has. clear_to_lower ab e he (range e has) (beside e has)));
          outside =
              beyond_first t positive (lower ab)
              (let at = side-form ab (lower ab) ∙ (λ i. depth (left_of (up.lo i) (up.hi i)) (lower ab)) in let below = side-lower ab in omega (arith, lin));
        },
      )
      | inr down ↦ (
        upper ab,
        record {
          joined = joined-trans edges p m (upper ab) to_m (joined_by_clear edges m (upper ab) (λ e has. clear_to_upper ab e he (range e has) (beside e has)));
          outside =
              beyond_first t positive (upper ab)
              (let at = side-form ab (upper ab) ∙ (λ i. depth (left_of (down.lo i) (down.hi i)) (upper ab)) in let above = side-upper ab in let back = left-exchanged t.a t.b (upper ab) in omega (arith, lin));
        },
      )
    ]

-- a point of the triangle off ac is joined with a point out of it
pub way_out : (t : Triangle) (ab bc ac : Seg) → AreThreeSides t ab bc ac → MeetsInEndsAlone ab bc
    → (edges : List Seg) → ((e : Seg) → Contains edges e → IsOther t ab bc ac e) → ((e : Seg) → Contains edges e → IsSegInRange e)
    → (p : Point) → IsWithin t p → ¬ IsOn ac p → (x : Point) × IsWayOut t edges p x
way_out t ab bc ac sides apart edges others range p within off =
    elim (trichotomy (area t) (pos 0)) [
      | inl right ↦ (
          let (x, out) = way_out_left (mirror t) bc ab ac (three-mirror t ab bc ac sides) edges (λ e has. others-mirror t ab bc ac e (others e has)) range
          (let m = area-mirror t in omega (arith, lin)) p (within-mirror t p within) off in
          (x, record { joined = out.joined; outside = λ w. out.outside (within-mirror t x w) })
          )
      | inr rest ↦ elim rest [
        | inl flat ↦ absurd (off (flat_third t ab bc ac sides apart flat p within))
        | inr left ↦ way_out_left t ab bc ac sides edges others range left p within off
      ]
    ]

-- the triangle is flat, or a point is in it or not
pub within_or_not : (t : Triangle) (p : Point) → (area t ≡ pos 0) ⊎ (IsWithin t p ⊎ ¬ IsWithin t p)
within_or_not t p =
    elim (trichotomy (area t) (pos 0)) [
      | inl right ↦ (
          let m = mirror t in
          let positive : pos 0 <ℤ area m = (let e = area-mirror t in omega (arith, lin)) in
          inr (⊎_elim (λ inside. inl (within-mirror m p (inside-within m p positive inside))) (λ out. inr (λ w. out (within-inside m p (le_of_lt positive) (within-mirror t p w))))
          (inside_or_not (to_a m) (to_b m) (to_c m) p))
          )
      | inr rest ↦ elim rest [
        | inl flat ↦ inl flat
        | inr left ↦ inr (⊎_elim (λ inside. inl (inside-within t p left inside)) (λ out. inr (λ w. out (within-inside t p (le_of_lt left) w))) (inside_or_not (to_a t) (to_b t) (to_c t) p))
      ]
    ]
