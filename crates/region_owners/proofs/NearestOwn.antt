-- Only the region's own edges can be nearest to a point of it: where these leave room round it, all edges do.
use mathlib.Core.List.{[], ◌∷◌}
use Rattle.std.proofs.Common.{◌≡◌, refl, sym, ◌∙◌, ap, subst, ℕ, zero, suc, ◌+◌, ◌*◌, ◌^◌, Bool, true, false, cond, List, ◌↔◌, ℤ, pos, neg_ℤ, ◌+ℤ◌, ◌-ℤ◌, ◌*ℤ◌, ◌≤ℤ◌, ◌<ℤ◌, int_eq, inl, inr, arith}
use Rattle.std.specs.Prelude.{Contains}
use Rattle.std.proofs.lemmas.Bool.{true≢false}
use Rattle.std.proofs.lemmas.Bool.Decides.{Decides-int_eq}
use Rattle.std.proofs.lemmas.Int.{ints}
use Rattle.cov_types.specs.declared.coord.Coord.{Coord}
use Rattle.cov_types.specs.declared.seg.Seg.{Seg}
use Rattle.integer_laws.proofs.Cast.{pos_add, pos_mul, pos_nonneg}
use Rattle.integer_laws.proofs.Compare.{le_of_lt, le_cases, lt_or_ge, lt_excludes_le, eq_or_not}
use Rattle.integer_laws.proofs.Ring.{lin, by_one, Var, Lit, ◌⊕◌, ◌⊖◌, ◌⊗◌, mul_one, mul_add}
use Rattle.integer_laws.proofs.Sign.{nonneg_times_nonneg, positive_times_positive}
use Rattle.plane.specs.Joined.{IsClear, Joined}
use Rattle.plane.specs.Point.{Point, at_coord, SamePoint, IsBetween}
use Rattle.plane.specs.Ray.{sweep, is_over, Rises}
use Rattle.plane.specs.Region.{IsOuterRegion, IsRegionOf, AreRegions}
use Rattle.plane.specs.Segment.{IsOn, IsEnd, midpoint, upper, lower}
use Rattle.plane.proofs.Forms.{form, between_weight, form_not_negative-between, form_not_positive-between, form_positive-between, form_negative-between, form_zero-between}
use Rattle.plane.proofs.Points.{d_positive, second_between, between-moved, same_point-sym, same_point-trans, between_by}
use Rattle.plane.proofs.Sides.{side_a, side_b, side_c, side-form, side_zero-on}
use Rattle.plane.proofs.Sweeps.{rises-in_range, sweep-above, sweep-same, same_as_lo, same_as_hi, on-is}
use Rattle.crossing_laws.specs.Crossing.{WeightedEdge, int_sum_by, IsSwept}
use Rattle.crossing_laws.proofs.Beside.{HaveOnlyEnds, side_points_clear}
use Rattle.crossing_laws.proofs.Lists.{contains_here, contains_there}
use Rattle.crossing_laws.proofs.Sums.{crossing_sum-joined}
use Rattle.crossing_laws.proofs.Ways.{joined-trans, joined_by_clear}
use Rattle.sector_laws.specs.Sector.{HalfEdge, AreDistinct, IsPlanar}
use Rattle.region_laws.specs.Weights.{weigh_sides}
use Rattle.region_laws.proofs.Balance.{balanced_sides}
use Rattle.region_laws.proofs.Exists.{regions_exist}
use Rattle.region_owners.specs.Box.{IsEdgeOf}
use Rattle.distance_laws.specs.Room.{squared_distance, HasRoom}
use Rattle.region_owners.specs.Gap.{HasRoomWithin}
use Rattle.region_owners.specs.Laws.{HasOwnRoomWithin}
use Rattle.region_owners.proofs.OwnEdges.{jump, weighed_edges, one_passes, passes, passes_own, IsSideTest, of_range, passes_next, sum_at, own_sum, region_test, sum_within, in_range}
use Rattle.region_owners.proofs.RegionBox.{in_box}
use Rattle.region_owners.proofs.StillNear.{not_past}

-- ---- from a point of an edge along it to its middle, and to its upper side

-- over plain variables: w is the sum of the weights a and b, times the denominators of the middle and the upper side
half_x : (w rx rd a b x : ℤ) → rx *ℤ w ≡ rd *ℤ ((a *ℤ x) +ℤ (b *ℤ ((pos (2 ^ 63) *ℤ x) -ℤ pos 1)))
    → (pos (2 ^ 64) *ℤ w) *ℤ rx ≡ ((rd *ℤ a) *ℤ ((pos (2 ^ 63) *ℤ x) +ℤ pos 1)) +ℤ ((rd *ℤ (a +ℤ (pos (2 ^ 64) *ℤ b))) *ℤ ((pos (2 ^ 63) *ℤ x) -ℤ pos 1))
half_x w rx rd a b x h =
    by_one (w ∷ rx ∷ rd ∷ a ∷ b ∷ x ∷ [])
    ((Lit (pos (2 ^ 64)) ⊗ Var 0) ⊗ Var 1)
    ((Var 2 ⊗ Var 3) ⊗ (Lit (pos (2 ^ 63)) ⊗ Var 5 ⊕ Lit (pos 1)) ⊕ (Var 2 ⊗ (Var 3 ⊕ Lit (pos (2 ^ 64)) ⊗ Var 4)) ⊗ (Lit (pos (2 ^ 63)) ⊗ Var 5 ⊖ Lit (pos 1)))
    (Lit (pos (2 ^ 64))) (Var 1 ⊗ Var 0) (Var 2 ⊗ (Var 3 ⊗ Var 5 ⊕ Var 4 ⊗ (Lit (pos (2 ^ 63)) ⊗ Var 5 ⊖ Lit (pos 1)))) refl h

half_y : (w ry rd a b y : ℤ) → ry *ℤ w ≡ rd *ℤ ((a *ℤ y) +ℤ (b *ℤ ((pos (2 ^ 63) *ℤ y) +ℤ pos (2 ^ 30))))
    → (pos (2 ^ 64) *ℤ w) *ℤ ry ≡ ((rd *ℤ a) *ℤ ((pos (2 ^ 63) *ℤ y) -ℤ pos (2 ^ 30))) +ℤ ((rd *ℤ (a +ℤ (pos (2 ^ 64) *ℤ b))) *ℤ ((pos (2 ^ 63) *ℤ y) +ℤ pos (2 ^ 30)))
half_y w ry rd a b y h =
    by_one (w ∷ ry ∷ rd ∷ a ∷ b ∷ y ∷ [])
    ((Lit (pos (2 ^ 64)) ⊗ Var 0) ⊗ Var 1)
    ((Var 2 ⊗ Var 3) ⊗ (Lit (pos (2 ^ 63)) ⊗ Var 5 ⊖ Lit (pos (2 ^ 30))) ⊕ (Var 2 ⊗ (Var 3 ⊕ Lit (pos (2 ^ 64)) ⊗ Var 4)) ⊗ (Lit (pos (2 ^ 63)) ⊗ Var 5 ⊕ Lit (pos (2 ^ 30))))
    (Lit (pos (2 ^ 64))) (Var 1 ⊗ Var 0) (Var 2 ⊗ (Var 3 ⊗ Var 5 ⊕ Var 4 ⊗ (Lit (pos (2 ^ 63)) ⊗ Var 5 ⊕ Lit (pos (2 ^ 30))))) refl h

half_d : (w rd a b : ℤ) → w ≡ (a *ℤ pos 2) +ℤ (b *ℤ pos (2 ^ 64))
    → (pos (2 ^ 64) *ℤ w) *ℤ rd ≡ ((rd *ℤ a) *ℤ pos (2 ^ 64)) +ℤ ((rd *ℤ (a +ℤ (pos (2 ^ 64) *ℤ b))) *ℤ pos (2 ^ 64))
half_d w rd a b h =
    by_one (w ∷ rd ∷ a ∷ b ∷ [])
    ((Lit (pos (2 ^ 64)) ⊗ Var 0) ⊗ Var 1) ((Var 1 ⊗ Var 2) ⊗ Lit (pos (2 ^ 64)) ⊕ (Var 1 ⊗ (Var 2 ⊕ Lit (pos (2 ^ 64)) ⊗ Var 3)) ⊗ Lit (pos (2 ^ 64)))
    (Lit (pos (2 ^ 64)) ⊗ Var 1) (Var 0) (Var 2 ⊗ Lit (pos 2) ⊕ Var 3 ⊗ Lit (pos (2 ^ 64))) refl h

half_sum : (w rd a b : ℤ) → w ≡ (a *ℤ pos 2) +ℤ (b *ℤ pos (2 ^ 64)) → (rd *ℤ a) +ℤ (rd *ℤ (a +ℤ (pos (2 ^ 64) *ℤ b))) ≡ rd *ℤ w
half_sum w rd a b h =
    by_one (w ∷ rd ∷ a ∷ b ∷ [])
    (Var 1 ⊗ Var 2 ⊕ Var 1 ⊗ (Var 2 ⊕ Lit (pos (2 ^ 64)) ⊗ Var 3)) (Var 1 ⊗ Var 0)
    (Var 1) (Var 2 ⊗ Lit (pos 2) ⊕ Var 3 ⊗ Lit (pos (2 ^ 64))) (Var 0) refl (sym h)

-- from the middle to the upper side is a part of the way from the lower to the upper
upper_half : (e : Seg) (r : Point) → IsBetween r (midpoint e) (upper e) → IsBetween r (lower e) (upper e)
upper_half e r h =
    between_by r (lower e) (upper e) (pos (2 ^ 64) *ℤ w) (rd *ℤ a) (rd *ℤ (a +ℤ (pos (2 ^ 64) *ℤ b)))
    (nonneg_times_nonneg (le_of_lt (d_positive r)) (pos_nonneg h.first))
    (nonneg_times_nonneg {x = rd} {y = a +ℤ (pos (2 ^ 64) *ℤ b)} (le_of_lt (d_positive r)) (let x = pos_nonneg h.first in let y = nonneg_times_nonneg {x = pos (2 ^ 64)} {y = b} (pos_nonneg (2 ^ 64)) (pos_nonneg h.second) in omega (arith, lin)))
    (subst (λ z. pos 0 <ℤ z) (sym (half_sum w rd a b w_is)) (positive_times_positive (d_positive r) (between_weight r (midpoint e) (upper e) h)))
    (half_x w r.x rd a b (e.lo.x +ℤ e.hi.x) h.x) (half_y w r.y rd a b (e.lo.y +ℤ e.hi.y) h.y) (half_d w rd a b w_is)
  where
    w : ℤ
    w = pos (h.first * 2 + h.second * 2 ^ 64)

    rd : ℤ
    rd = pos r.d

    a : ℤ
    a = pos h.first

    b : ℤ
    b = pos h.second

    w_is : w ≡ (a *ℤ pos 2) +ℤ (b *ℤ pos (2 ^ 64))
    w_is = pos_add (h.first * 2) (h.second * 2 ^ 64) ∙ (λ i. pos_mul h.first 2 i +ℤ pos_mul h.second (2 ^ 64) i)

module _ (e : Seg) (rises : Rises e) where
  on_middle : IsOn e (midpoint e)
  on_middle = between_by (midpoint e) (at_coord e.lo) (at_coord e.hi) (pos 1) (pos 1) (pos 1) (record { le = tt }) (record { le = tt }) (record { lt = tt }) (middle e.lo.x e.hi.x) (middle e.lo.y e.hi.y) refl
    where
      middle : (x y : ℤ) → pos 1 *ℤ (x +ℤ y) ≡ (pos 1 *ℤ x) +ℤ (pos 1 *ℤ y)
      middle x y = mul_add (pos 1) x y

  abbrev above_lo : Point → ℤ
  above_lo p = form (pos (2 ^ 30)) (pos 1) (neg_ℤ (sweep (at_coord e.lo))) p

  abbrev above_hi : Point → ℤ
  above_hi p = form (pos (2 ^ 30)) (pos 1) (neg_ℤ (sweep (at_coord e.hi))) p

  from_lo : (p : Point) → IsOn e p → pos 0 ≤ℤ above_lo p
  from_lo p on = let is = (on-is e p rises).0 on in let above = sweep-above (sweep (at_coord e.lo)) p in let low = is.1 in omega (arith, lin)

  to_hi : (p : Point) → IsOn e p → above_hi p ≤ℤ pos 0
  to_hi p on = let is = (on-is e p rises).0 on in let above = sweep-above (sweep (at_coord e.hi)) p in let high = is.2 in omega (arith, lin)

  -- between two points of the edge are points of it
  on_between : (r p q : Point) → IsBetween r p q → IsOn e p → IsOn e q → IsOn e r
  on_between r p q h on_p on_q =
      let low = form_not_negative-between (pos (2 ^ 30)) (pos 1) (neg_ℤ (sweep (at_coord e.lo))) r p q h (from_lo p on_p) (from_lo q on_q) in
      let high = form_not_positive-between (pos (2 ^ 30)) (pos 1) (neg_ℤ (sweep (at_coord e.hi))) r p q h (to_hi p on_p) (to_hi q on_q) in
      let above = sweep-above (sweep (at_coord e.lo)) r in
      let below = sweep-above (sweep (at_coord e.hi)) r in
      let zero = form_zero-between (side_a e) (side_b e) (side_c e) r p q h (sym (side-form e p) ∙ side_zero-on e p on_p) (sym (side-form e q) ∙ side_zero-on e q on_q) in
      (on-is e r rises).1 (side-form e r ∙ zero, omega (arith, lin), omega (arith, lin))

  middle_from : pos 0 <ℤ above_lo (midpoint e)
  unfolding sweep
  middle_from = let above = sweep-above (sweep (at_coord e.lo)) (midpoint e) in let up = rises in omega (arith, ints)

  middle_to : above_hi (midpoint e) <ℤ pos 0
  unfolding sweep
  middle_to = let above = sweep-above (sweep (at_coord e.hi)) (midpoint e) in let up = rises in omega (arith, ints)

  -- where an end is between a point of the edge and the middle, it is that point
  end_first : (r c : Point) → IsBetween r c (midpoint e) → IsOn e c → IsEnd e r → SamePoint r c
  end_first r c h on (inl lo) =
      let here = sweep-same r (at_coord e.lo) lo in
      let one = mul_one (sweep r) in
      let above = sweep-above (sweep (at_coord e.lo)) r in
      let at_c = sweep-above (sweep (at_coord e.lo)) c in
      elim (le_cases (from_lo c on)) [
        | inl more ↦ (let past = form_positive-between (pos (2 ^ 30)) (pos 1) (neg_ℤ (sweep (at_coord e.lo))) r c (midpoint e) h more middle_from in absurd (omega (arith, lin)))
        | inr none ↦ same_point-trans r (at_coord e.lo) c lo (same_point-sym c (at_coord e.lo) (same_as_lo e c rises (side_zero-on e c on) (omega (arith, lin))))
      ]
  end_first r c h on (inr hi) =
      let here = sweep-same r (at_coord e.hi) hi in
      let one = mul_one (sweep r) in
      let above = sweep-above (sweep (at_coord e.hi)) r in
      let at_c = sweep-above (sweep (at_coord e.hi)) c in
      elim (le_cases (to_hi c on)) [
        | inl less ↦ (let past = form_negative-between (pos (2 ^ 30)) (pos 1) (neg_ℤ (sweep (at_coord e.hi))) r c (midpoint e) h less middle_to in absurd (omega (arith, lin)))
        | inr none ↦ same_point-trans r (at_coord e.hi) c hi (same_point-sym c (at_coord e.hi) (same_as_hi e c rises (side_zero-on e c on) (omega (arith, lin))))
      ]

-- ---- the edges that weigh something

module _ (test : HalfEdge → Bool) where
  abbrev pub fewer : List Seg → List Seg
  fewer [] = []
  fewer (e ∷ es) = cond (int_eq (jump test e) (pos 0)) (fewer es) (e ∷ fewer es)

  pub fewer_is : (edges : List Seg) (f : Seg) → Contains (fewer edges) f → Contains edges f × (jump test f ≡ pos 0 → ⊥)
  fewer_is [] f has = absurd (let within = has.1 in omega arith)
  fewer_is (e ∷ es) f has = by (fewer_is es f) (int_eq (jump test e) (pos 0)) refl has
    where
      by : (Contains (fewer es) f → Contains es f × (jump test f ≡ pos 0 → ⊥)) → (b : Bool) → int_eq (jump test e) (pos 0) ≡ b → Contains (cond b (fewer es) (e ∷ fewer es)) f
          → Contains (e ∷ es) f × (jump test f ≡ pos 0 → ⊥)
      by later true is has = let rest = later has in (contains_there e f es rest.0, rest.1)
      by later false is (zero, within, same) =
          (subst (λ g. Contains (e ∷ es) g) same (contains_here e es), λ none. true≢false (sym ((Decides-int_eq (jump test e) (pos 0)).1 (ap (jump test) same ∙ none)) ∙ is))
      by later false is (suc k, within, same) = let rest = later (k, omega arith, same) in (contains_there e f es rest.0, rest.1)

  nothing : (b : Bool) (k : ℤ) → k ≡ pos 0 → cond b k (pos 0) ≡ pos 0
  nothing true k none = none
  nothing false k none = refl

  abbrev gained : (Seg → Bool) → WeightedEdge → ℤ
  gained t w = cond (t w.edge) w.weight (pos 0)

  sum_fewer : (t : Seg → Bool) (edges : List Seg) → int_sum_by (gained t) (weigh_sides test (fewer edges)) ≡ int_sum_by (gained t) (weigh_sides test edges)
  sum_fewer t [] = refl
  sum_fewer t (e ∷ es) = by (sum_fewer t es) (int_eq (jump test e) (pos 0)) refl
    where
      by : int_sum_by (gained t) (weigh_sides test (fewer es)) ≡ int_sum_by (gained t) (weigh_sides test es) → (b : Bool) → int_eq (jump test e) (pos 0) ≡ b
          → int_sum_by (gained t) (weigh_sides test (cond b (fewer es) (e ∷ fewer es))) ≡ int_sum_by (gained t) (weigh_sides test (e ∷ es))
      by rest true is = (let none = nothing (t e) (jump test e) ((Decides-int_eq (jump test e) (pos 0)).0 is) in omega (arith, lin))
      by rest false is = ap (λ z. cond (t e) (jump test e) (pos 0) +ℤ z) rest

-- what the edges weigh is the same along a way that meets none that weighs something
module _ (edges : List Seg) (planar : IsPlanar edges) (distinct : AreDistinct edges) (passes : HalfEdge → Bool) (test : IsSideTest edges passes) where
  pub sum_way : (p q : Point) → Joined (fewer passes edges) p q → sum_at edges planar distinct passes test p ≡ sum_at edges planar distinct passes test q
  sum_way p q j =
      let same = weighed_edges passes (fewer passes edges) in
      let balanced = balanced_sides edges planar distinct passes (passes_next edges planar distinct passes test) in
      sym (sum_fewer passes (λ e. is_over e p) edges)
      ∙ crossing_sum-joined (weigh_sides passes (fewer passes edges))
      (subst (λ es. IsSwept es) (sym same) (λ e c. rises-in_range e (of_range edges planar distinct passes test e (fewer_is passes edges e c).0)))
      (λ t. sum_fewer passes (λ e. t e.lo) edges ∙ balanced t ∙ sym (sum_fewer passes (λ e. t e.hi) edges))
      p q (subst (λ es. Joined es p q) (sym same) j)
      ∙ sum_fewer passes (λ e. is_over e q) edges

-- ---- the way to the upper side of an edge that is near

module _ (edges : List Seg) (planar : IsPlanar edges) (distinct : AreDistinct edges) (r : ℕ) (inner : ¬ IsOuterRegion edges r) (numbers : List ℕ) (regions : AreRegions edges numbers) where
  abbrev inside : HalfEdge → Bool
  inside h = passes edges planar distinct r inner numbers regions h

  abbrev test : IsSideTest edges inside
  test = region_test edges planar distinct r inner numbers regions

  abbrev own_edges : List Seg
  own_edges = fewer inside edges

  rises : (e : Seg) → Contains edges e → Rises e
  rises e has = rises-in_range e (in_range edges planar distinct r inner e has)

  own_of : (f : Seg) → Contains edges f → (jump inside f ≡ pos 0 → ⊥) → IsEdgeOf edges r f
  own_of f has weighs = record {
    among = has;
    beside = elim (one_passes inside f weighs) [
      | inl up ↦ inl (passes_own edges planar distinct r inner numbers regions (record { edge = f; forwards = true }) has up)
      | inr down ↦ inr (passes_own edges planar distinct r inner numbers regions (record { edge = f; forwards = false }) has down)
    ];
  }

  module _ (q : Coord) (w : ℕ) (own : IsRegionOf edges (at_coord q) r) (rooms : (e : Seg) → IsEdgeOf edges r e → HasRoom q w e) where
    module _ (e : Seg) (has : Contains edges e) (c : Point) (on : IsOn e c) (near : (pos 4 *ℤ squared_distance q c) <ℤ (pos (w * w) *ℤ pos (c.d * c.d))) where
      not_own : IsEdgeOf edges r e → ⊥
      not_own its = lt_excludes_le near (rooms e its c on)

      module _ (none : jump inside e ≡ pos 0) where
        clear_to : IsClear own_edges (at_coord q) c
        clear_to f in_f s between on_f = (let is = fewer_is inside edges f in_f in not_past q s c w between near (rooms f (own_of f is.0 is.1) s on_f))

        only_ends : (f : Seg) → Contains own_edges f → HaveOnlyEnds e f
        only_ends f in_f = (let is = fewer_is inside edges f in_f in elim (planar.noded e f has is.0) [
          | inl same ↦ absurd (is.1 (sym (ap (jump inside) same) ∙ none))
          | inr ends ↦ ends
        ])

        clear_along : IsClear own_edges c (midpoint e)
        clear_along f in_f s between on_f =
            let up = rises e has in
            let on_e = on_between e up s c (midpoint e) between on (on_middle e up) in
            let same = end_first e up s c between on (only_ends f in_f s (on_e, on_f)).0 in
            clear_to f in_f c (second_between (at_coord q) c) (between-moved s c (at_coord f.lo) (at_coord f.hi) same on_f)

        clear_up : IsClear own_edges (midpoint e) (upper e)
        clear_up f in_f s between on_f =
            let is = fewer_is inside edges f in_f in
            (side_points_clear e f (in_range edges planar distinct r inner e has) (in_range edges planar distinct r inner f is.0) (only_ends f in_f)).none s (upper_half e s between) on_f

        way : Joined own_edges (at_coord q) (upper e)
        way =
            joined-trans own_edges (at_coord q) c (upper e) (joined_by_clear own_edges (at_coord q) c clear_to)
            (joined-trans own_edges c (midpoint e) (upper e) (joined_by_clear own_edges c (midpoint e) clear_along) (joined_by_clear own_edges (midpoint e) (upper e) clear_up))

        one_there : pos 1 ≡ pos (cond (inside (record { edge = e; forwards = true })) 1 0)
        one_there =
            sym (sum_within edges planar distinct r inner numbers regions (at_coord q) own) ∙ sum_way edges planar distinct inside test (at_coord q) (upper e) way
            ∙ own_sum edges planar distinct inside test (record { edge = e; forwards = true }) has

        is_inside : (b : Bool) → pos 1 ≡ pos (cond b 1 0) → b ≡ true
        is_inside true h = refl
        is_inside false h = absurd (omega (arith, lin))

        no_way : ⊥
        no_way = not_own (record { among = has; beside = inl (passes_own edges planar distinct r inner numbers regions (record { edge = e; forwards = true }) has (is_inside (inside (record { edge = e; forwards = true })) one_there)) })

      not_near : ⊥
      not_near = elim (eq_or_not (jump inside e) (pos 0)) [
        | inl none ↦ no_way none
        | inr weighs ↦ not_own (own_of e has weighs)
      ]

    room_by : (e : Seg) → Contains edges e → HasRoom q w e
    room_by e has c on = elim (lt_or_ge (pos 4 *ℤ squared_distance q c) (pos (w * w) *ℤ pos (c.d * c.d))) [
      | inl near ↦ absurd (not_near e has c on near)
      | inr room ↦ room
    ]

pub room_by_own : (edges : List Seg) → IsPlanar edges → AreDistinct edges → (r : ℕ) → ¬ IsOuterRegion edges r
    → (q : Coord) (w : ℕ) → IsRegionOf edges (at_coord q) r → ((e : Seg) → IsEdgeOf edges r e → HasRoom q w e) → (e : Seg) → Contains edges e → HasRoom q w e
room_by_own edges planar distinct r inner q w own rooms e has = let some = regions_exist edges planar distinct in room_by edges planar distinct r inner some.0 some.1 q w own rooms e has

-- so room is searched for among the region's edges, in their box
pub own_search : (edges : List Seg) → IsPlanar edges → AreDistinct edges → (r : ℕ) → ¬ IsOuterRegion edges r → (w : ℕ) → HasRoomWithin edges r w ↔ HasOwnRoomWithin edges r w
own_search edges planar distinct r inner w = (
  λ h. record { at = h.at; within = h.within; in_box = in_box edges planar distinct r inner (at_coord h.at) h.within; room = λ e own. h.room e own.among },
  λ h. record { at = h.at; within = h.within; room = room_by_own edges planar distinct r inner h.at w h.within h.room },
)
