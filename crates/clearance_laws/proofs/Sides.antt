-- On which side of its nearest own edge a point of a region is: the region's.
use mathlib.Core.List.{[], ◌∷◌}
use borrow.Author.Differences.{product_is}
use Rattle.std.proofs.Common.{◌≡◌, refl, sym, ◌∙◌, ap, subst, ℕ, List, Contains, ◌*◌, ◌^◌, ℤ, pos, negsuc, neg_ℤ, ◌+ℤ◌, ◌-ℤ◌, ◌*ℤ◌, ◌≤ℤ◌, ◌<ℤ◌, unsigned_abs, arith}
use Rattle.std.proofs.lemmas.List.Elements.{All-contains}
use Rattle.cov_types.specs.declared.coord.Coord.{Coord}
use Rattle.cov_types.specs.declared.seg.Seg.{Seg}
use Rattle.cov_types.specs.Range.{IsSegInRange}
use Rattle.integer_laws.proofs.Bound.{within_abs}
use Rattle.integer_laws.proofs.Cast.{pos_mul, pos_nonneg, positive_natural}
use Rattle.integer_laws.proofs.Compare.{le_of_lt, lt_excludes_le}
use Rattle.integer_laws.proofs.Order.{mul_le, mul_lt_mul}
use Rattle.integer_laws.proofs.Ring.{lin, by_ring, by_one, by_three, Term, Var, Lit, ◌⊕◌, ◌⊖◌, ◌⊗◌, Neg, mul_one, one_mul, mul_comm, minus_one_mul}
use Rattle.integer_laws.proofs.Sign.{positive_times_positive}
use Rattle.plane.specs.Point.{Point, at_coord, IsBetween}
use Rattle.plane.specs.Ray.{sweep, Rises}
use Rattle.plane.specs.Region.{IsOuterRegion, IsRegionOf}
use Rattle.plane.specs.Segment.{side, upper, lower}
use Rattle.plane.proofs.Forms.{form, form_zero-between}
use Rattle.plane.proofs.Sweeps.{rises-in_range}
use Rattle.crossing_laws.proofs.Located.{region-joined}
use Rattle.crossing_laws.proofs.Ways.{joined_by_clear}
use Rattle.sector_laws.specs.Sector.{AreDistinct, IsPlanar}
use Rattle.sector_laws.proofs.Lines.{mix_positive-between, mix_not_positive-between}
use Rattle.sector_laws.proofs.Sliver.{flat, IsFlat, IsInSliver, beside_is, sliver_from_numbers, sliver_clear, upper_in_sliver, lower_in_sliver}
use Rattle.region_owners.specs.Box.{IsEdgeOf}
use Rattle.distance_laws.specs.Room.{half_distance, squared_length, foot, half_side}
use Rattle.clearance_laws.specs.Inside.{half_point}
use Rattle.clearance_laws.specs.Near.{IsAsFar}
use Rattle.clearance_laws.proofs.Outside.{stays}

-- ---- numbers of a point c/2 and an edge

-- the scalar product of the edge and the way from a point to c/2, doubled and times the denominator
abbrev pub along : Coord → Seg → Point → ℤ
along c e p = ((e.hi.x -ℤ e.lo.x) *ℤ ((c.x *ℤ pos p.d) -ℤ (pos 2 *ℤ p.x))) +ℤ ((e.hi.y -ℤ e.lo.y) *ℤ ((c.y *ℤ pos p.d) -ℤ (pos 2 *ℤ p.y)))

-- the vector product of the two
abbrev pub across : Coord → Seg → Point → ℤ
across c e p = (half_side c e *ℤ pos p.d) -ℤ (pos 2 *ℤ side e p)

-- their squares add up to the squares of the two ways
pub squares_sum : (c : Coord) (e : Seg) (p : Point) → squared_length e *ℤ half_distance c p ≡ (across c e p *ℤ across c e p) +ℤ (along c e p *ℤ along c e p)
unfolding half_distance squared_length half_side side
squares_sum c e p =
    by_ring (e.lo.x ∷ e.lo.y ∷ e.hi.x ∷ e.hi.y ∷ c.x ∷ c.y ∷ p.x ∷ p.y ∷ pos p.d ∷ [])
    (((Var 2 ⊖ Var 0) ⊗ (Var 2 ⊖ Var 0) ⊕ (Var 3 ⊖ Var 1) ⊗ (Var 3 ⊖ Var 1)) ⊗ ((Var 4 ⊗ Var 8 ⊖ Lit (pos 2) ⊗ Var 6) ⊗ (Var 4 ⊗ Var 8 ⊖ Lit (pos 2) ⊗ Var 6) ⊕ (Var 5 ⊗ Var 8 ⊖ Lit (pos 2) ⊗ Var 7) ⊗ (Var 5 ⊗ Var 8 ⊖ Lit (pos 2) ⊗ Var 7)))
    ((((Var 2 ⊖ Var 0) ⊗ (Var 5 ⊖ Lit (pos 2) ⊗ Var 1) ⊖ (Var 3 ⊖ Var 1) ⊗ (Var 4 ⊖ Lit (pos 2) ⊗ Var 0)) ⊗ Var 8 ⊖ Lit (pos 2) ⊗ ((Var 2 ⊖ Var 0) ⊗ (Var 7 ⊖ Var 1 ⊗ Var 8) ⊖ (Var 3 ⊖ Var 1) ⊗ (Var 6 ⊖ Var 0 ⊗ Var 8)))
    ⊗ (((Var 2 ⊖ Var 0) ⊗ (Var 5 ⊖ Lit (pos 2) ⊗ Var 1) ⊖ (Var 3 ⊖ Var 1) ⊗ (Var 4 ⊖ Lit (pos 2) ⊗ Var 0)) ⊗ Var 8 ⊖ Lit (pos 2) ⊗ ((Var 2 ⊖ Var 0) ⊗ (Var 7 ⊖ Var 1 ⊗ Var 8) ⊖ (Var 3 ⊖ Var 1) ⊗ (Var 6 ⊖ Var 0 ⊗ Var 8)))
    ⊕ ((Var 2 ⊖ Var 0) ⊗ (Var 4 ⊗ Var 8 ⊖ Lit (pos 2) ⊗ Var 6) ⊕ (Var 3 ⊖ Var 1) ⊗ (Var 5 ⊗ Var 8 ⊖ Lit (pos 2) ⊗ Var 7))
    ⊗ ((Var 2 ⊖ Var 0) ⊗ (Var 4 ⊗ Var 8 ⊖ Lit (pos 2) ⊗ Var 6) ⊕ (Var 3 ⊖ Var 1) ⊗ (Var 5 ⊗ Var 8 ⊖ Lit (pos 2) ⊗ Var 7))) refl

-- ---- a point on the way from c/2 to its foot, as near to the edge as we like: the last of M parts from the foot

record IsNearFoot (c : Coord) (e : Seg) (m : ℤ) (q : Point) : Type 0 where
  x : q.x ≡ (c.x *ℤ (m *ℤ squared_length e)) +ℤ (((m -ℤ pos 1) *ℤ half_side c e) *ℤ (e.hi.y -ℤ e.lo.y))
  y : q.y ≡ (c.y *ℤ (m *ℤ squared_length e)) -ℤ (((m -ℤ pos 1) *ℤ half_side c e) *ℤ (e.hi.x -ℤ e.lo.x))
  d : pos q.d ≡ pos 2 *ℤ (m *ℤ squared_length e)

some_near_foot : (c : Coord) (e : Seg) (m : ℤ) → pos 0 <ℤ m → pos 0 <ℤ squared_length e → (q : Point) × IsNearFoot c e m q
some_near_foot c e m positive long =
    let (d, some, is) = positive_natural (pos 2 *ℤ (m *ℤ squared_length e)) (positive_times_positive {x = pos 2} {y = m *ℤ squared_length e} (record { lt = tt }) (positive_times_positive positive long)) in (
      record {
        x = (c.x *ℤ (m *ℤ squared_length e)) +ℤ (((m -ℤ pos 1) *ℤ half_side c e) *ℤ (e.hi.y -ℤ e.lo.y));
        y = (c.y *ℤ (m *ℤ squared_length e)) -ℤ (((m -ℤ pos 1) *ℤ half_side c e) *ℤ (e.hi.x -ℤ e.lo.x));
        d = d;
        positive = some;
      },
      record { x = refl; y = refl; d = sym is },
    )

-- over variables: the ends of the edge, c, the point and m
abbrev U : Term
U = Var 2 ⊖ Var 0

abbrev V : Term
V = Var 3 ⊖ Var 1

abbrev H : Term
H = U ⊗ (Var 5 ⊖ Lit (pos 2) ⊗ Var 1) ⊖ V ⊗ (Var 4 ⊖ Lit (pos 2) ⊗ Var 0)

abbrev F : Term
F = U ⊗ (Var 4 ⊖ Lit (pos 2) ⊗ Var 0) ⊕ V ⊗ (Var 5 ⊖ Lit (pos 2) ⊗ Var 1)

abbrev L : Term
L = U ⊗ U ⊕ V ⊗ V

abbrev X : Term
X = Var 4 ⊗ (Var 9 ⊗ L) ⊕ ((Var 9 ⊖ Lit (pos 1)) ⊗ H) ⊗ V

abbrev Y : Term
Y = Var 5 ⊗ (Var 9 ⊗ L) ⊖ ((Var 9 ⊖ Lit (pos 1)) ⊗ H) ⊗ U

abbrev D : Term
D = Lit (pos 2) ⊗ (Var 9 ⊗ L)

-- how much the way to the foot leans
abbrev lean_of : Coord → Seg → ℤ
lean_of c e = half_side c e *ℤ ((e.hi.x -ℤ e.lo.x) -ℤ (pos (2 ^ 30) *ℤ (e.hi.y -ℤ e.lo.y)))

module _ (c : Coord) (e : Seg) (m : ℤ) (q : Point) (at : IsNearFoot c e m q) where
  abbrev values : List ℤ
  values = e.lo.x ∷ e.lo.y ∷ e.hi.x ∷ e.hi.y ∷ c.x ∷ c.y ∷ q.x ∷ q.y ∷ pos q.d ∷ m ∷ []

  near_foot-along : along c e q ≡ pos 0
  unfolding half_side squared_length
  near_foot-along =
      by_three values (U ⊗ (Var 4 ⊗ Var 8 ⊖ Lit (pos 2) ⊗ Var 6) ⊕ V ⊗ (Var 5 ⊗ Var 8 ⊖ Lit (pos 2) ⊗ Var 7)) (Lit (pos 0))
      (Neg (Lit (pos 2) ⊗ U)) (Var 6) X (Neg (Lit (pos 2) ⊗ V)) (Var 7) Y (U ⊗ Var 4 ⊕ V ⊗ Var 5) (Var 8) D refl at.x at.y at.d

  near_foot-side : side e q ≡ half_side c e *ℤ squared_length e
  unfolding half_side squared_length side
  near_foot-side =
      by_three values (U ⊗ (Var 7 ⊖ Var 1 ⊗ Var 8) ⊖ V ⊗ (Var 6 ⊖ Var 0 ⊗ Var 8)) (H ⊗ L)
      (Neg V) (Var 6) X U (Var 7) Y (V ⊗ Var 0 ⊖ U ⊗ Var 1) (Var 8) D refl at.x at.y at.d

  abbrev lean : ℤ
  lean = lean_of c e

  abbrev rise : ℤ
  rise = sweep (at_coord e.hi) -ℤ sweep (at_coord e.lo)

  near_foot-from : sweep q -ℤ (sweep (at_coord e.lo) *ℤ pos q.d) ≡ (m *ℤ (foot c e *ℤ rise)) +ℤ lean
  unfolding half_side squared_length sweep foot
  near_foot-from =
      let k = Lit (pos (2 ^ 30)) in
      by_three values (k ⊗ Var 6 ⊕ Var 7 ⊖ (k ⊗ Var 0 ⊕ Var 1) ⊗ Var 8) (Var 9 ⊗ (F ⊗ (k ⊗ Var 2 ⊕ Var 3 ⊖ (k ⊗ Var 0 ⊕ Var 1))) ⊕ H ⊗ (U ⊖ k ⊗ V))
      k (Var 6) X (Lit (pos 1)) (Var 7) Y (Neg (k ⊗ Var 0 ⊕ Var 1)) (Var 8) D refl at.x at.y at.d

  near_foot-to : (sweep (at_coord e.hi) *ℤ pos q.d) -ℤ sweep q ≡ (m *ℤ (((pos 2 *ℤ squared_length e) -ℤ foot c e) *ℤ rise)) -ℤ lean
  unfolding half_side squared_length sweep foot
  near_foot-to =
      let k = Lit (pos (2 ^ 30)) in
      by_three values ((k ⊗ Var 2 ⊕ Var 3) ⊗ Var 8 ⊖ (k ⊗ Var 6 ⊕ Var 7)) (Var 9 ⊗ ((Lit (pos 2) ⊗ L ⊖ F) ⊗ (k ⊗ Var 2 ⊕ Var 3 ⊖ (k ⊗ Var 0 ⊕ Var 1))) ⊖ H ⊗ (U ⊖ k ⊗ V))
      (Neg k) (Var 6) X (Neg (Lit (pos 1))) (Var 7) Y (k ⊗ Var 2 ⊕ Var 3) (Var 8) D refl at.x at.y at.d

  -- on the side k of the edge, near enough it is in the flat triangle
  near_foot-sliver : (k : ℤ) → Rises e → pos 0 <ℤ squared_length e → pos 0 <ℤ (k *ℤ half_side c e) → pos 0 <ℤ foot c e → foot c e <ℤ (pos 2 *ℤ squared_length e)
      → ((flat *ℤ (k *ℤ (half_side c e *ℤ squared_length e))) +ℤ (pos (unsigned_abs lean) +ℤ pos 1)) ≤ℤ m → IsInSliver k e q
  near_foot-sliver k up long beside after before far =
      let from = near_foot-from in
      let to = near_foot-to in
      let own = ap (λ z. k *ℤ z) near_foot-side in
      let deep : k *ℤ (half_side c e *ℤ squared_length e) ≡ (k *ℤ half_side c e) *ℤ squared_length e = by_ring (k ∷ half_side c e ∷ squared_length e ∷ []) (Var 0 ⊗ (Var 1 ⊗ Var 2)) ((Var 0 ⊗ Var 1) ⊗ Var 2) refl in
      let positive = positive_times_positive beside long in
      let more = positive_times_positive {x = flat} {y = k *ℤ (half_side c e *ℤ squared_length e)} (omega (arith, lin)) (omega (arith, lin)) in
      let leans = within_abs lean in
      let room = pos_nonneg (unsigned_abs lean) in
      let high : pos 0 <ℤ rise = omega (arith, lin) in
      let part = positive_times_positive after high in
      let rest = positive_times_positive {x = (pos 2 *ℤ squared_length e) -ℤ foot c e} {y = rise} (omega (arith, lin)) high in
      let first = mul_le {x = pos 1} {y = foot c e *ℤ rise} m (omega (arith, lin)) (omega (arith, lin)) in
      let second = mul_le {x = pos 1} {y = ((pos 2 *ℤ squared_length e) -ℤ foot c e) *ℤ rise} m (omega (arith, lin)) (omega (arith, lin)) in
      let one = mul_one m in
      sliver_from_numbers k e q
      (subst (λ z. IsFlat z (sweep q) (pos q.d) (sweep (at_coord e.lo)) (sweep (at_coord e.hi))) (sym own)
      (record { beside = omega (arith, lin); after_lo = omega (arith, lin, leans.low, leans.high); before_hi = omega (arith, lin, leans.low, leans.high) }))

  -- the points of the way from c/2 to there are nearer to c/2 than the edge's line is
  module _ (k : ℤ) (unit : k *ℤ k ≡ pos 1) (beside : pos 0 <ℤ (k *ℤ half_side c e)) (long : pos 0 <ℤ squared_length e) (several : pos 1 ≤ℤ m) where
    side_at : side e (half_point c) ≡ half_side c e
    unfolding side half_side
    side_at =
        by_ring (e.lo.x ∷ e.lo.y ∷ e.hi.x ∷ e.hi.y ∷ c.x ∷ c.y ∷ [])
        (U ⊗ (Var 5 ⊖ Var 1 ⊗ Lit (pos 2)) ⊖ V ⊗ (Var 4 ⊖ Var 0 ⊗ Lit (pos 2))) H refl

    along_at : along c e (half_point c) ≡ pos 0
    along_at =
        by_ring (e.lo.x ∷ e.lo.y ∷ e.hi.x ∷ e.hi.y ∷ c.x ∷ c.y ∷ [])
        (U ⊗ (Var 4 ⊗ Lit (pos 2) ⊖ Lit (pos 2) ⊗ Var 4) ⊕ V ⊗ (Var 5 ⊗ Lit (pos 2) ⊖ Lit (pos 2) ⊗ Var 5)) (Lit (pos 0)) refl

    along-form : (p : Point) → form (neg_ℤ (pos 2 *ℤ (e.hi.x -ℤ e.lo.x))) (neg_ℤ (pos 2 *ℤ (e.hi.y -ℤ e.lo.y))) (((e.hi.x -ℤ e.lo.x) *ℤ c.x) +ℤ ((e.hi.y -ℤ e.lo.y) *ℤ c.y)) p ≡ along c e p
    unfolding form
    along-form p =
        by_ring (e.lo.x ∷ e.lo.y ∷ e.hi.x ∷ e.hi.y ∷ c.x ∷ c.y ∷ p.x ∷ p.y ∷ pos p.d ∷ [])
        ((Neg (Lit (pos 2) ⊗ U) ⊗ Var 6 ⊕ Neg (Lit (pos 2) ⊗ V) ⊗ Var 7) ⊕ (U ⊗ Var 4 ⊕ V ⊗ Var 5) ⊗ Var 8)
        (U ⊗ (Var 4 ⊗ Var 8 ⊖ Lit (pos 2) ⊗ Var 6) ⊕ V ⊗ (Var 5 ⊗ Var 8 ⊖ Lit (pos 2) ⊗ Var 7)) refl

    along_between : (p : Point) → IsBetween p (half_point c) q → along c e p ≡ pos 0
    along_between p h =
        sym (along-form p) ∙ form_zero-between _ _ _ p (half_point c) q h (along-form (half_point c) ∙ along_at) (along-form q ∙ near_foot-along)

    own_is : k *ℤ side e q ≡ (k *ℤ half_side c e) *ℤ squared_length e
    own_is = ap (λ z. k *ℤ z) near_foot-side ∙ by_ring (k ∷ half_side c e ∷ squared_length e ∷ []) (Var 0 ⊗ (Var 1 ⊗ Var 2)) ((Var 0 ⊗ Var 1) ⊗ Var 2) refl

    beside_between : (p : Point) → IsBetween p (half_point c) q → pos 0 <ℤ (k *ℤ side e p)
    beside_between p h =
        let is = λ (r : Point). beside_is k (side e r) (sweep r) (pos r.d) in
        let first = ap (λ z. k *ℤ z) side_at in
        let last = positive_times_positive beside long in
        let there = own_is in
        let between = mix_positive-between (pos 0) k (pos 0) e p (half_point c) q h (omega (arith, lin, is (half_point c))) (omega (arith, lin, is q)) in
        omega (arith, lin, is p)

    -- over plain variables: h is k times the side of c
    below_is : (k h s t d : ℤ) → ((pos 0 *ℤ t) +ℤ ((pos 2 *ℤ k) *ℤ s)) +ℤ (neg_ℤ h *ℤ d) ≡ (pos 2 *ℤ (k *ℤ s)) -ℤ (h *ℤ d)
    below_is k h s t d = by_ring (k ∷ h ∷ s ∷ t ∷ d ∷ []) ((Lit (pos 0) ⊗ Var 3 ⊕ (Lit (pos 2) ⊗ Var 0) ⊗ Var 2) ⊕ Neg (Var 1) ⊗ Var 4) (Lit (pos 2) ⊗ (Var 0 ⊗ Var 2) ⊖ Var 1 ⊗ Var 4) refl

    deep_there : (pos 2 *ℤ (k *ℤ side e q)) ≤ℤ ((k *ℤ half_side c e) *ℤ pos q.d)
    deep_there =
        let product = positive_times_positive beside long in
        let times = mul_le {x = pos 1} {y = m} ((k *ℤ half_side c e) *ℤ squared_length e) (le_of_lt product) several in
        let one = mul_one ((k *ℤ half_side c e) *ℤ squared_length e) in
        let depth : (k *ℤ half_side c e) *ℤ pos q.d ≡ pos 2 *ℤ (((k *ℤ half_side c e) *ℤ squared_length e) *ℤ m) =
        ap (λ z. (k *ℤ half_side c e) *ℤ z) at.d ∙ by_ring ((k *ℤ half_side c e) ∷ squared_length e ∷ m ∷ []) (Var 0 ⊗ (Lit (pos 2) ⊗ (Var 2 ⊗ Var 1))) (Lit (pos 2) ⊗ ((Var 0 ⊗ Var 1) ⊗ Var 2)) refl in
        let there = own_is in
        omega (arith, lin, product_is (pos 2) (((k *ℤ half_side c e) *ℤ squared_length e) *ℤ m), product_is (pos 2) (k *ℤ side e q))

    deep_between : (p : Point) → IsBetween p (half_point c) q → (pos 2 *ℤ (k *ℤ side e p)) ≤ℤ ((k *ℤ half_side c e) *ℤ pos p.d)
    deep_between p h =
        let is = λ (r : Point). below_is k (k *ℤ half_side c e) (side e r) (sweep r) (pos r.d) in
        let first = ap (λ z. pos 2 *ℤ (k *ℤ z)) side_at in
        let same = mul_comm (pos 2) (k *ℤ half_side c e) in
        let there = deep_there in
        let between = mix_not_positive-between (pos 0) (pos 2 *ℤ k) (neg_ℤ (k *ℤ half_side c e)) e p (half_point c) q h (omega (arith, lin, is (half_point c))) (omega (arith, lin, is q)) in
        omega (arith, lin, is p)

    -- over plain variables: the vector product, squared
    across_square : (k h d s : ℤ) → k *ℤ k ≡ pos 1 → ((h *ℤ d) -ℤ (pos 2 *ℤ s)) *ℤ ((h *ℤ d) -ℤ (pos 2 *ℤ s)) ≡ (((k *ℤ h) *ℤ d) -ℤ (pos 2 *ℤ (k *ℤ s))) *ℤ (((k *ℤ h) *ℤ d) -ℤ (pos 2 *ℤ (k *ℤ s)))
    across_square k h d s is =
        by_one (k ∷ h ∷ d ∷ s ∷ []) ((Var 1 ⊗ Var 2 ⊖ Lit (pos 2) ⊗ Var 3) ⊗ (Var 1 ⊗ Var 2 ⊖ Lit (pos 2) ⊗ Var 3))
        (((Var 0 ⊗ Var 1) ⊗ Var 2 ⊖ Lit (pos 2) ⊗ (Var 0 ⊗ Var 3)) ⊗ ((Var 0 ⊗ Var 1) ⊗ Var 2 ⊖ Lit (pos 2) ⊗ (Var 0 ⊗ Var 3)))
        (Neg ((Var 1 ⊗ Var 2 ⊖ Lit (pos 2) ⊗ Var 3) ⊗ (Var 1 ⊗ Var 2 ⊖ Lit (pos 2) ⊗ Var 3))) (Var 0 ⊗ Var 0) (Lit (pos 1)) refl is

    square_is : (k h d : ℤ) → k *ℤ k ≡ pos 1 → ((k *ℤ h) *ℤ d) *ℤ ((k *ℤ h) *ℤ d) ≡ (h *ℤ h) *ℤ (d *ℤ d)
    square_is k h d is =
        by_one (k ∷ h ∷ d ∷ []) (((Var 0 ⊗ Var 1) ⊗ Var 2) ⊗ ((Var 0 ⊗ Var 1) ⊗ Var 2)) ((Var 1 ⊗ Var 1) ⊗ (Var 2 ⊗ Var 2))
        ((Var 1 ⊗ Var 2) ⊗ (Var 1 ⊗ Var 2)) (Var 0 ⊗ Var 0) (Lit (pos 1)) refl is

    way_nearer : (p : Point) → IsBetween p (half_point c) q → (squared_length e *ℤ half_distance c p) <ℤ ((half_side c e *ℤ half_side c e) *ℤ pos (p.d * p.d))
    way_nearer p h =
        let s = k *ℤ side e p in
        let d = pos p.d in
        let j = k *ℤ half_side c e in
        let left = beside_between p h in
        let deep = deep_between p h in
        let two = product_is (pos 2) s in
        let gap = (j *ℤ d) -ℤ (pos 2 *ℤ s) in
        let less = mul_lt_mul {x = gap} {y = j *ℤ d} {u = gap} {v = j *ℤ d} (omega (arith, lin)) (omega (arith, lin)) (omega (arith, lin)) (omega (arith, lin)) in
        let none = ap (λ z. z *ℤ z) (along_between p h) in
        let sum = squares_sum c e p in
        let turned = across_square k (half_side c e) d (side e p) unit in
        let square = square_is k (half_side c e) d unit in
        let depth = ap (λ z. (half_side c e *ℤ half_side c e) *ℤ z) (pos_mul p.d p.d) in
        omega (arith, lin)

-- ---- regions

module _ (edges : List Seg) (planar : IsPlanar edges) (distinct : AreDistinct edges) (r : ℕ) (inner : ¬ IsOuterRegion edges r) where
  -- a point of the region is on the region's side of its nearest own edge, if its foot is inside that
  module _ (c : Coord) (e : Seg) (own : IsRegionOf edges (half_point c) r) (has : Contains edges e) (after : pos 0 <ℤ foot c e) (before : foot c e <ℤ (pos 2 *ℤ squared_length e))
      (nearest : (f : Seg) → IsEdgeOf edges r f → IsAsFar c (half_side c e *ℤ half_side c e) (squared_length e) f) where
    in_range : (f : Seg) → Contains edges f → IsSegInRange f
    in_range f i = All-contains IsSegInRange edges f planar.in_range i

    long : pos 0 <ℤ squared_length e
    long = let two = product_is (pos 2) (squared_length e) in omega (arith, lin)

    near_side : (k : ℤ) (s : Point) → k *ℤ k ≡ pos 1 → IsInSliver k e s → pos 0 <ℤ (k *ℤ half_side c e) → IsRegionOf edges s r
    near_side k s unit in_sliver beside =
        let far = (flat *ℤ (k *ℤ (half_side c e *ℤ squared_length e))) +ℤ (pos (unsigned_abs (lean_of c e)) +ℤ pos 1) in
        let m = pos (unsigned_abs far) +ℤ pos 1 in
        let high = (within_abs far).high in
        let some = pos_nonneg (unsigned_abs far) in
        let (q, at) = some_near_foot c e m (omega (arith, lin)) long in
        let sliver = near_foot-sliver c e m q at k (rises-in_range e (in_range e has)) long beside after before (omega (arith, lin)) in
        let there = stays edges planar distinct r inner (half_point c) q own (λ f its p between on. lt_excludes_le (way_nearer c e m q at k unit beside long (omega (arith, lin)) p between) (nearest f its p on)) in
        region-joined edges q s r (joined_by_clear edges q s (sliver_clear k e edges q s in_range planar.noded has sliver in_sliver)) there

    pub above_nearest : pos 0 <ℤ half_side c e → IsRegionOf edges (upper e) r
    above_nearest beside = near_side (pos 1) (upper e) refl (upper_in_sliver e (rises-in_range e (in_range e has))) (omega (arith, lin, one_mul (half_side c e)))

    pub below_nearest : half_side c e <ℤ pos 0 → IsRegionOf edges (lower e) r
    below_nearest beside = near_side (negsuc 0) (lower e) refl (lower_in_sliver e (rises-in_range e (in_range e has))) (omega (arith, lin, minus_one_mul (half_side c e)))
