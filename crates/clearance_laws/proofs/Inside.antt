-- Whether a point off a region's own edges is in it is told by what these weigh over it.
use mathlib.Core.List.{[], ◌∷◌}
use Rattle.std.proofs.Common.{◌+ℤ◌, ◌-ℤ◌, ◌≡◌, ◌⊎◌, refl, sym, ◌∙◌, ap, subst, ℕ, Bool, true, false, cond, ◌||◌, List, ◌↔◌, ℤ, pos, ◌*ℤ◌, inl, inr, arith}
use Rattle.std.specs.Prelude.{Contains}
use Rattle.std.proofs.lemmas.Bool.{true≢false, false_from_ne_true}
use Rattle.std.proofs.lemmas.Int.{ints}
use Rattle.cov_types.specs.declared.seg.Seg.{Seg}
use Rattle.cov_types.specs.Range.{IsSegInRange}
use Rattle.integer_laws.proofs.Compare.{eq_or_not, le_or_gt, lt_excludes_le}
use Rattle.integer_laws.proofs.Ring.{lin}
use Rattle.plane.specs.Joined.{IsClear, IsOff, Joined}
use Rattle.plane.specs.Point.{Point, at_coord}
use Rattle.plane.specs.Ray.{sweep, is_over, Rises}
use Rattle.plane.specs.Region.{far_point, IsOuter, IsOuterRegion, IsRegionOf}
use Rattle.plane.specs.Segment.{IsOn, side, midpoint, upper}
use Rattle.plane.proofs.Over.{over-is}
use Rattle.plane.proofs.Points.{between-moved}
use Rattle.plane.proofs.Sweeps.{rises-in_range, on-is}
use Rattle.crossing_laws.specs.Crossing.{crossing_sum}
use Rattle.crossing_laws.proofs.Beside.{HaveOnlyEnds, side_points_clear}
use Rattle.crossing_laws.proofs.Lists.{contains_here, contains_there}
use Rattle.crossing_laws.proofs.Located.{region-joined, same_region}
use Rattle.crossing_laws.proofs.Ways.{joined_by_clear, joined-sym, joined-trans}
use Rattle.sector_laws.specs.Sector.{HalfEdge, left, AreDistinct, IsPlanar}
use Rattle.sector_laws.proofs.Angles.{true_or_false}
use Rattle.region_laws.specs.Weights.{weigh_sides}
use Rattle.region_laws.proofs.Balance.{first_or_later}
use Rattle.region_laws.proofs.Edge.{below_joined, none_below_outer}
use Rattle.region_laws.proofs.Nearest.{nearest_or_none}
use Rattle.region_owners.specs.Box.{IsEdgeOf}
use Rattle.region_owners.proofs.OwnEdges.{jump, one_passes, IsSideTest, of_range, sum_at, sum_joined, own_sum, edge_under}
use Rattle.region_owners.proofs.NearestOwn.{fewer, fewer_is, sum_way}
use Rattle.clearance_laws.specs.Inside.{edges_beside, TellsSides, IsOffOwn}
use Rattle.clearance_laws.proofs.Along.{upper_half, on_middle, on_between, end_first}

-- ---- on an edge or off all

on_or_not : (e : Seg) (p : Point) → Rises e → IsOn e p ⊎ (IsOn e p → ⊥)
on_or_not e p rises =
    let is = on-is e p rises in
    elim (eq_or_not (side e p) (pos 0)) [
      | inl line ↦ elim (le_or_gt (sweep (at_coord e.lo) *ℤ pos p.d) (sweep p)) [
        | inl from ↦ elim (le_or_gt (sweep p) (sweep (at_coord e.hi) *ℤ pos p.d)) [
          | inl to ↦ inl (is.1 (line, from, to))
          | inr past ↦ inr (λ on. lt_excludes_le past (is.0 on).2)
        ]
        | inr before ↦ inr (λ on. lt_excludes_le before (is.0 on).1)
      ]
      | inr off ↦ inr (λ on. off (is.0 on).0)
    ]

on_some : (edges : List Seg) (p : Point) → ((e : Seg) → Contains edges e → Rises e) → ((e : Seg) × (Contains edges e × IsOn e p)) ⊎ IsOff edges p
on_some [] p rises = inr (λ e c on. (let none = c.1 in omega (arith, none)))
on_some (e ∷ es) p rises = elim (on_or_not e p (rises e (contains_here e es))) [
  | inl on ↦ inl (e, (contains_here e es, on))
  | inr not_on ↦ elim (on_some es p (λ f c. rises f (contains_there e f es c))) [
    | inl found ↦ inl (found.0, (contains_there e found.0 es found.1.0, found.1.1))
    | inr off ↦ inr (λ f c on. elim (first_or_later e es f c) [
      | inl here ↦ not_on (subst (λ g. IsOn g p) (sym here) on)
      | inr later ↦ off f later on
    ])
  ]
]

-- ---- past the range

not_over_far : (e : Seg) → IsSegInRange e → is_over e far_point ≡ false
unfolding sweep
not_over_far e range = false_from_ne_true (is_over e far_point) (λ t. (let over = (over-is e far_point).0 t in let to = over.to in let right = range.hi.right in let top = range.hi.top in omega (arith, ints)))

sum_none : (passes : HalfEdge → Bool) (edges : List Seg) (p : Point) → ((e : Seg) → Contains edges e → is_over e p ≡ false) → crossing_sum (weigh_sides passes edges) p ≡ pos 0
sum_none passes [] p none = refl
sum_none passes (e ∷ es) p none =
    let first = ap (λ t. cond t (jump passes e) (pos 0)) (none e (contains_here e es)) in
    let rest = sum_none passes es p (λ f c. none f (contains_there e f es c)) in
    omega (arith, lin)

outer_is : (edges : List Seg) (p : Point) (r : ℕ) → IsRegionOf edges p r → IsOuter edges p → IsOuterRegion edges r
outer_is edges p r own out = record {
  outer = record { at = own.joined.at; side = own.joined.side; outer = joined-trans edges own.joined.at p far_point (joined-sym edges p own.joined.at own.joined.joined) out };
  least = λ n o. own.least n (record { at = o.at; side = o.side; joined = joined-trans edges p far_point o.at out (joined-sym edges o.at far_point o.outer) });
}

module _ (edges : List Seg) (planar : IsPlanar edges) (distinct : AreDistinct edges) (r : ℕ) (inner : ¬ IsOuterRegion edges r) (passes : HalfEdge → Bool) (tells : TellsSides edges r passes) where
  same_sides : (h g : HalfEdge) → Contains edges h.edge → Contains edges g.edge → Joined edges (left h) (left g) → passes h ≡ passes g
  same_sides h g in_h in_g j = elim (true_or_false (passes h)) [
    | inl up ↦ up ∙ sym ((tells g in_g).1 (region-joined edges (left h) (left g) r j ((tells h in_h).0 up)))
    | inr fails ↦ fails ∙ sym (false_from_ne_true (passes g) (λ t. true≢false (sym ((tells h in_h).1 (region-joined edges (left g) (left h) r (joined-sym edges (left h) (left g) j) ((tells g in_g).0 t))) ∙ fails)))
  ]

  pub side_test : IsSideTest edges passes
  side_test = record { same = same_sides; outside = λ h c out. false_from_ne_true (passes h) (λ t. inner (outer_is edges (left h) r ((tells h c).0 t) out)) }

  abbrev sum : Point → ℤ
  sum p = sum_at edges planar distinct passes side_test p

  rises : (e : Seg) → Contains edges e → Rises e
  rises e c = rises-in_range e (of_range edges planar distinct passes side_test e c)

  pub sum_inside : (p : Point) → IsRegionOf edges p r → sum p ≡ pos 1
  sum_inside p own =
      let found = edge_under edges planar distinct r inner p own in
      let e = found.0 in
      let above = found.1.2 in
      let h : HalfEdge = record { edge = e; forwards = true } in
      sum_joined edges planar distinct passes side_test p (upper e) (same_region edges p (upper e) r own above) ∙ own_sum edges planar distinct passes side_test h found.1.0.among
      ∙ ap (λ t. pos (cond t 1 0)) ((tells h found.1.0.among).1 above)

  one_is : (b : Bool) → pos (cond b 1 0) ≡ pos 1 → b ≡ true
  one_is true h = refl
  one_is false h = absurd (omega (arith, lin))

  off_inside : (p : Point) → IsOff edges p → sum p ≡ pos 1 → IsRegionOf edges p r
  off_inside p off one = elim (nearest_or_none edges planar p) [
    | inl found ↦ (
        let e = found.0 in
        let h : HalfEdge = record { edge = e; forwards = true } in
        let way = below_joined edges planar p off e found.1 in
        let weight = sym (own_sum edges planar distinct passes side_test h found.1.below.among) ∙ sym (sum_joined edges planar distinct passes side_test p (upper e) way) ∙ one in
        region-joined edges (upper e) p r (joined-sym edges p (upper e) way) ((tells h found.1.below.among).0 (one_is (passes h) weight))
        )
    | inr none ↦ (
        let way = none_below_outer edges planar p off none in
        let far = sum_none passes edges far_point (λ e c. not_over_far e (of_range edges planar distinct passes side_test e c)) in
        let same = sum_joined edges planar distinct passes side_test p far_point way in
        absurd (omega (arith, lin))
        )
  ]

  pub own_of : (f : Seg) → Contains edges f → (jump passes f ≡ pos 0 → ⊥) → IsEdgeOf edges r f
  own_of f has weighs = record {
    among = has;
    beside = elim (one_passes passes f weighs) [
      | inl up ↦ inl ((tells (record { edge = f; forwards = true }) has).0 up)
      | inr down ↦ inr ((tells (record { edge = f; forwards = false }) has).0 down)
    ];
  }

  -- a point of an edge that is not the region's own, off these
  module _ (p : Point) (off : IsOffOwn edges r p) (e : Seg) (has : Contains edges e) (on : IsOn e p) where
    none : jump passes e ≡ pos 0
    none = elim (eq_or_not (jump passes e) (pos 0)) [
      | inl is ↦ is
      | inr weighs ↦ absurd (off e (own_of e has weighs) on)
    ]

    only_ends : (f : Seg) → Contains (fewer passes edges) f → HaveOnlyEnds e f
    only_ends f in_f = (let is = fewer_is passes edges f in_f in elim (planar.noded e f has is.0) [
      | inl same ↦ absurd (is.1 (sym (ap (jump passes) same) ∙ none))
      | inr ends ↦ ends
    ])

    clear_along : IsClear (fewer passes edges) p (midpoint e)
    clear_along f in_f s between on_f =
        let is = fewer_is passes edges f in_f in
        let up = rises e has in
        let on_e = on_between e up s p (midpoint e) between on (on_middle e up) in
        let same = end_first e up s p between on (only_ends f in_f s (on_e, on_f)).0 in
        off f (own_of f is.0 is.1) (between-moved s p (at_coord f.lo) (at_coord f.hi) same on_f)

    clear_up : IsClear (fewer passes edges) (midpoint e) (upper e)
    clear_up f in_f s between on_f =
        let is = fewer_is passes edges f in_f in
        (side_points_clear e f (of_range edges planar distinct passes side_test e has) (of_range edges planar distinct passes side_test f is.0) (only_ends f in_f)).none s (upper_half e s between) on_f

    not_one : sum p ≡ pos 1 → ⊥
    not_one one =
        let h : HalfEdge = record { edge = e; forwards = true } in
        let way = joined-trans (fewer passes edges) p (midpoint e) (upper e) (joined_by_clear (fewer passes edges) p (midpoint e) clear_along) (joined_by_clear (fewer passes edges) (midpoint e) (upper e) clear_up) in
        let weight = sym (own_sum edges planar distinct passes side_test h has) ∙ sym (sum_way edges planar distinct passes side_test p (upper e) way) ∙ one in
        off e (record { among = has; beside = inl ((tells h has).0 (one_is (passes h) weight)) }) on

  pub inside_is : (p : Point) → IsOffOwn edges r p → IsRegionOf edges p r ↔ (crossing_sum (weigh_sides passes edges) p ≡ pos 1)
  inside_is p off = (
    sum_inside p,
    λ one. elim (on_some edges p rises) [
      | inl found ↦ absurd (not_one p off found.0 found.1.0 found.1.1 one)
      | inr clear ↦ off_inside p clear one
    ],
  )

-- ---- the other edges do not count

pub beside_sum : (passes : HalfEdge → Bool) (edges : List Seg) (p : Point) → crossing_sum (weigh_sides passes (edges_beside passes edges)) p ≡ crossing_sum (weigh_sides passes edges) p
beside_sum passes [] p = refl
beside_sum passes (e ∷ es) p = by (beside_sum passes es p) (passes (record { edge = e; forwards = true })) refl (passes (record { edge = e; forwards = false })) refl
  where
    nothing : (b : Bool) (k : ℤ) → k ≡ pos 0 → cond b k (pos 0) ≡ pos 0
    nothing true k none = none
    nothing false k none = refl

    by : crossing_sum (weigh_sides passes (edges_beside passes es)) p ≡ crossing_sum (weigh_sides passes es) p
        → (t : Bool) → passes (record { edge = e; forwards = true }) ≡ t → (b : Bool) → passes (record { edge = e; forwards = false }) ≡ b
        → crossing_sum (weigh_sides passes (cond (t || b) (e ∷ edges_beside passes es) (edges_beside passes es))) p ≡ crossing_sum (weigh_sides passes (e ∷ es)) p
    by rest true up b down = ap (λ z. cond (is_over e p) (jump passes e) (pos 0) +ℤ z) rest
    by rest false up true down = ap (λ z. cond (is_over e p) (jump passes e) (pos 0) +ℤ z) rest
    by rest false up false down =
        let none = nothing (is_over e p) (jump passes e) (λ i. pos (cond (down i) 1 0) -ℤ pos (cond (up i) 1 0)) in
        omega (arith, lin)
