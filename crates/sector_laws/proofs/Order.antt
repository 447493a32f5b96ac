-- The half-edges that leave a vertex are strictly ordered by angle, and two in one direction are one.
use mathlib.Core.List.{List}
use Rattle.std.proofs.Common.{◌≡◌, refl, sym, ◌∙◌, ap, subst, Bool, true, false, true≢false, ℤ, pos, neg_ℤ, ◌≤ℤ◌, ◌<ℤ◌, inl, inr, ◌⊎◌, arith}
use Rattle.cov_types.specs.declared.coord.Coord.{Coord}
use Rattle.cov_types.specs.declared.seg.Seg.{Seg}
use Rattle.cov_types.proofs.Equal.{same_segs}
use Rattle.integer_laws.proofs.Compare.{int_tests, le_or_gt, le_of_lt, sign_cases}
use Rattle.integer_laws.proofs.Ring.{lin, mul_one, mul_comm}
use Rattle.integer_laws.proofs.Sign.{positive_times_positive, positive_factor}
use Rattle.plane.specs.Point.{at_coord}
use Rattle.plane.specs.Segment.{turn_of}
use Rattle.plane.specs.Ray.{sweep, Rises}
use Rattle.plane.specs.Noded.{MeetInEnds}
use Rattle.plane.proofs.Points.{first_between, second_between}
use Rattle.plane.proofs.Sides.{side-at_coord, turn-first_two}
use Rattle.plane.proofs.Sweeps.{on_from_sweep, rises-in_range}
use Rattle.sector_laws.specs.Sector.{HalfEdge, is_left_of, is_before_by_angle, Leaves, IsPlanar}
use Rattle.sector_laws.proofs.Near.{cross, cross-swap}
use Rattle.sector_laws.proofs.Vectors.{cramer}
use Rattle.sector_laws.proofs.Leaving.{ray_x, ray_y, way_x, way_y, edge_in_range, heading_same, turn_cross, left_cross}
use Rattle.sector_laws.proofs.Turns.{same_from_point}

-- ---- two edges that meet in ends alone and lead from one end in one direction are one

sweep-at : {a b : Coord} → a ≡ b → sweep (at_coord a) ≡ sweep (at_coord b)
sweep-at h = ap (λ c. sweep (at_coord c)) h

-- forwards, where the second is no longer
same_forwards : (e f : Seg) → Rises e → Rises f → MeetInEnds e f → e.lo ≡ f.lo → turn_of e.lo e.hi f.hi ≡ pos 0 → sweep (at_coord f.hi) ≤ℤ sweep (at_coord e.hi) → e ≡ f
same_forwards e f up_e up_f meet lo zero le =
    elim meet [
      | inl same ↦ same
      | inr ends ↦ (
          let at = sweep-at lo in
          let on = on_from_sweep e (at_coord f.hi) up_e (side-at_coord e f.hi ∙ zero) (omega (arith, lin, mul_one (sweep (at_coord e.lo)))) (omega (arith, lin, mul_one (sweep (at_coord e.hi)))) in
          elim (ends (at_coord f.hi) (on, second_between (at_coord f.lo) (at_coord f.hi))).0 [
            | inl end ↦ absurd (let wrong = sweep-at (same_from_point f.hi e.lo end) in omega (arith, lin))
            | inr end ↦ same_segs e f lo (sym (same_from_point f.hi e.hi end))
          ]
          )
    ]

-- and back
same_back : (e f : Seg) → Rises e → Rises f → MeetInEnds e f → e.hi ≡ f.hi → turn_of e.hi e.lo f.lo ≡ pos 0 → sweep (at_coord e.lo) ≤ℤ sweep (at_coord f.lo) → e ≡ f
same_back e f up_e up_f meet hi zero le =
    elim meet [
      | inl same ↦ same
      | inr ends ↦ (
          let at = sweep-at hi in
          let on =
          on_from_sweep e (at_coord f.lo) up_e (side-at_coord e f.lo ∙ turn-first_two e.hi e.lo f.lo ∙ ap neg_ℤ zero)
          (omega (arith, lin, mul_one (sweep (at_coord e.lo)))) (omega (arith, lin, mul_one (sweep (at_coord e.hi)))) in
          elim (ends (at_coord f.lo) (on, first_between (at_coord f.lo) (at_coord f.hi))).0 [
            | inl end ↦ same_segs e f (sym (same_from_point f.lo e.lo end)) hi
            | inr end ↦ absurd (let wrong = sweep-at (same_from_point f.lo e.hi end) in omega (arith, lin))
          ]
          )
    ]

module _ (edges : List Seg) (planar : IsPlanar edges) (v : Coord) where
  rises : (k : HalfEdge) → Leaves edges v k → Rises k.edge
  rises k leaves = rises-in_range k.edge (edge_in_range edges planar v k.edge leaves.among)

  zero_turned : (h g : HalfEdge) → Leaves edges v h → Leaves edges v g → cross (way_x v h) (way_y v h) (way_x v g) (way_y v g) ≡ pos 0
      → cross (way_x v g) (way_y v g) (way_x v h) (way_y v h) ≡ pos 0
  zero_turned h g at_h at_g zero = omega (arith, lin, cross-swap (way_x v g) (way_y v g) (way_x v h) (way_y v h))

  -- two half-edges of one half, in one direction
  same_direction : (e f : Seg) (b : Bool) → let h : HalfEdge = record { edge = e; forwards = b } in let g : HalfEdge = record { edge = f; forwards = b } in
      Leaves edges v h → Leaves edges v g → cross (way_x v h) (way_y v h) (way_x v g) (way_y v g) ≡ pos 0 → e ≡ f
  same_direction e f true at_h at_g zero =
      let h : HalfEdge = record { edge = e; forwards = true } in
      let g : HalfEdge = record { edge = f; forwards = true } in
      elim (le_or_gt (sweep (at_coord f.hi)) (sweep (at_coord e.hi))) [
        | inl shorter ↦
            same_forwards e f (rises h at_h) (rises g at_g) (planar.noded e f at_h.among at_g.among) (at_h.from ∙ sym at_g.from) (turn_cross edges planar v g h at_h ∙ zero) shorter
        | inr longer ↦
            sym (same_forwards f e (rises g at_g) (rises h at_h) (planar.noded f e at_g.among at_h.among) (at_g.from ∙ sym at_h.from)
            (turn_cross edges planar v h g at_g ∙ zero_turned h g at_h at_g zero) (le_of_lt longer))
      ]
  same_direction e f false at_h at_g zero =
      let h : HalfEdge = record { edge = e; forwards = false } in
      let g : HalfEdge = record { edge = f; forwards = false } in
      elim (le_or_gt (sweep (at_coord e.lo)) (sweep (at_coord f.lo))) [
        | inl shorter ↦
            same_back e f (rises h at_h) (rises g at_g) (planar.noded e f at_h.among at_g.among) (at_h.from ∙ sym at_g.from) (turn_cross edges planar v g h at_h ∙ zero) shorter
        | inr longer ↦
            sym (same_back f e (rises g at_g) (rises h at_h) (planar.noded f e at_g.among at_h.among) (at_g.from ∙ sym at_h.from)
            (turn_cross edges planar v h g at_g ∙ zero_turned h g at_h at_g zero) (le_of_lt longer))
      ]

  pub same_half_zero : (h g : HalfEdge) → Leaves edges v h → Leaves edges v g → h.forwards ≡ g.forwards → cross (way_x v h) (way_y v h) (way_x v g) (way_y v g) ≡ pos 0 → h ≡ g
  same_half_zero h g at_h at_g half zero =
      let turned : g ≡ record { edge = g.edge; forwards = h.forwards } = λ i. record { edge = g.edge; forwards = sym half i } in
      let same = same_direction h.edge g.edge h.forwards at_h (subst (λ k. Leaves edges v k) turned at_g) (subst (λ k. cross (way_x v h) (way_y v h) (way_x v k) (way_y v k) ≡ pos 0) turned zero) in
      λ i. record { edge = same i; forwards = half i }

  -- ---- of two half-edges one comes first, or they are one

  pub cross_left : (g h : HalfEdge) → Leaves edges v h → pos 0 <ℤ cross (way_x v h) (way_y v h) (way_x v g) (way_y v g) → is_left_of g h ≡ true
  cross_left g h leaves left = omega (arith, lin, int_tests, turn_cross edges planar v g h leaves)

  pub cross_not_left : (g h : HalfEdge) → Leaves edges v h → cross (way_x v h) (way_y v h) (way_x v g) (way_y v g) ≤ℤ pos 0 → is_left_of g h ≡ false
  cross_not_left g h leaves none = omega (arith, lin, int_tests, turn_cross edges planar v g h leaves)

  in_one_half : (e f : Seg) (b : Bool) → let h : HalfEdge = record { edge = e; forwards = b } in let g : HalfEdge = record { edge = f; forwards = b } in
      Leaves edges v h → Leaves edges v g → (h ≡ g) ⊎ ((is_left_of g h ≡ true) ⊎ (is_left_of h g ≡ true))
  in_one_half e f b at_h at_g =
      let h : HalfEdge = record { edge = e; forwards = b } in
      let g : HalfEdge = record { edge = f; forwards = b } in
      elim (sign_cases (cross (way_x v h) (way_y v h) (way_x v g) (way_y v g))) [
        | inl negative ↦ inr (inr (cross_left h g at_g (omega (arith, lin, cross-swap (way_x v g) (way_y v g) (way_x v h) (way_y v h)))))
        | inr rest ↦ elim rest [
          | inl zero ↦ inl (let same = same_direction e f b at_h at_g zero in λ i. record { edge = same i; forwards = b })
          | inr positive ↦ inr (inl (cross_left g h at_h positive))
        ]
      ]

  of_halves : (e f : Seg) (p q : Bool) → let h : HalfEdge = record { edge = e; forwards = p } in let g : HalfEdge = record { edge = f; forwards = q } in
      Leaves edges v h → Leaves edges v g → (h ≡ g) ⊎ ((is_before_by_angle h g ≡ true) ⊎ (is_before_by_angle g h ≡ true))
  of_halves e f true true at_h at_g = in_one_half e f true at_h at_g
  of_halves e f true false at_h at_g = inr (inl refl)
  of_halves e f false true at_h at_g = inr (inr refl)
  of_halves e f false false at_h at_g = in_one_half e f false at_h at_g

  pub one_or_before : (h g : HalfEdge) → Leaves edges v h → Leaves edges v g → (h ≡ g) ⊎ ((is_before_by_angle h g ≡ true) ⊎ (is_before_by_angle g h ≡ true))
  one_or_before h g at_h at_g = of_halves h.edge g.edge h.forwards g.forwards at_h at_g

  -- ---- and not both, and what comes before one that comes before another comes before it

  left_asymm : (h g : HalfEdge) → Leaves edges v h → Leaves edges v g → is_left_of g h ≡ true → is_left_of h g ≡ false
  left_asymm h g at_h at_g left = cross_not_left h g at_g (omega (arith, lin, cross-swap (way_x v g) (way_y v g) (way_x v h) (way_y v h), left_cross edges planar v g h at_h left))

  asymm_of : (e f : Seg) (p q : Bool) → let h : HalfEdge = record { edge = e; forwards = p } in let g : HalfEdge = record { edge = f; forwards = q } in
      Leaves edges v h → Leaves edges v g → is_before_by_angle h g ≡ true → is_before_by_angle g h ≡ false
  asymm_of e f true true at_h at_g before = left_asymm _ _ at_h at_g before
  asymm_of e f true false at_h at_g before = refl
  asymm_of e f false true at_h at_g before = absurd (true≢false (sym before))
  asymm_of e f false false at_h at_g before = left_asymm _ _ at_h at_g before

  pub before-asymm : (h g : HalfEdge) → Leaves edges v h → Leaves edges v g → is_before_by_angle h g ≡ true → is_before_by_angle g h ≡ false
  before-asymm h g at_h at_g before = asymm_of h.edge g.edge h.forwards g.forwards at_h at_g before

  -- over plain variables: turning left twice within a half
  left_twice : (a b c d e f ux uy : ℤ) → pos 0 <ℤ cross a b ux uy → pos 0 <ℤ cross c d ux uy → pos 0 <ℤ cross e f ux uy → pos 0 <ℤ cross a b c d → pos 0 <ℤ cross c d e f → pos 0 <ℤ cross a b e f
  left_twice a b c d e f ux uy ha hb hc hab hbc =
      let first = positive_times_positive hab hc in
      let second = positive_times_positive hbc ha in
      positive_factor (cross c d ux uy) (cross a b e f) (le_of_lt hb) (omega (arith, lin, cramer e f a b c d ux uy, mul_comm (cross c d ux uy) (cross a b e f)))

  left_trans : (b : Bool) (h g k : HalfEdge) → Leaves edges v h → Leaves edges v g → Leaves edges v k → h.forwards ≡ b → g.forwards ≡ b → k.forwards ≡ b
      → is_left_of g h ≡ true → is_left_of k g ≡ true → is_left_of k h ≡ true
  left_trans b h g k at_h at_g at_k same_h same_g same_k first second =
      cross_left k h at_h
      (left_twice (way_x v h) (way_y v h) (way_x v g) (way_y v g) (way_x v k) (way_y v k) (ray_x b) (ray_y b)
      (heading_same edges planar v b h at_h same_h) (heading_same edges planar v b g at_g same_g) (heading_same edges planar v b k at_k same_k)
      (left_cross edges planar v g h at_h first) (left_cross edges planar v k g at_g second))

  trans_of : (d e f : Seg) (p q r : Bool) → let h : HalfEdge = record { edge = d; forwards = p } in let g : HalfEdge = record { edge = e; forwards = q } in
      let k : HalfEdge = record { edge = f; forwards = r } in
      Leaves edges v h → Leaves edges v g → Leaves edges v k → is_before_by_angle h g ≡ true → is_before_by_angle g k ≡ true → is_before_by_angle h k ≡ true
  trans_of d e f true true true at_h at_g at_k first second = left_trans true _ _ _ at_h at_g at_k refl refl refl first second
  trans_of d e f true q false at_h at_g at_k first second = refl
  trans_of d e f true false true at_h at_g at_k first second = absurd (true≢false (sym second))
  trans_of d e f false true r at_h at_g at_k first second = absurd (true≢false (sym first))
  trans_of d e f false false true at_h at_g at_k first second = absurd (true≢false (sym second))
  trans_of d e f false false false at_h at_g at_k first second = left_trans false _ _ _ at_h at_g at_k refl refl refl first second

  pub before-trans : (h g k : HalfEdge) → Leaves edges v h → Leaves edges v g → Leaves edges v k
      → is_before_by_angle h g ≡ true → is_before_by_angle g k ≡ true → is_before_by_angle h k ≡ true
  before-trans h g k at_h at_g at_k first second = trans_of h.edge g.edge k.edge h.forwards g.forwards k.forwards at_h at_g at_k first second
