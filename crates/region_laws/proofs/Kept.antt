-- A test on sides that next and a walk over links keep is the same on joined sides.
use mathlib.Core.List.{List, [], ◌∷◌}
use Rattle.std.proofs.Common.{◌≡◌, refl, sym, ◌∙◌, ap, subst, Bool, true, false, cond, Contains, IsTrue, ◌⊎◌, ℤ, pos, ◌+ℤ◌, ◌-ℤ◌, inl, inr, arith}
use Rattle.std.proofs.lemmas.List.Elements.{All-contains}
use Rattle.cov_types.specs.declared.coord.Coord.{Coord}
use Rattle.cov_types.specs.declared.seg.Seg.{Seg}
use Rattle.cov_types.specs.Coord.{is_before}
use Rattle.cov_types.specs.Range.{IsSegInRange}
use Rattle.cov_types.proofs.Equal.{Decides-same_segs}
use Rattle.integer_laws.proofs.Ring.{lin}
use Rattle.plane.specs.Point.{Point, at_coord}
use Rattle.plane.specs.Segment.{upper, lower}
use Rattle.plane.specs.Joined.{Joined}
use Rattle.plane.specs.Region.{far_point, IsOuter}
use Rattle.plane.proofs.Sweeps.{rises-in_range}
use Rattle.crossing_laws.specs.Across.{AllMeetInEnds, is_same_seg, weight_of}
use Rattle.crossing_laws.specs.Crossing.{edges_of, crossing_sum, IsSwept}
use Rattle.crossing_laws.proofs.Sums.{crossing_sum-joined}
use Rattle.crossing_laws.proofs.Changes.{crossing_sum-across}
use Rattle.crossing_laws.proofs.Lists.{contains_here, contains_there}
use Rattle.sector_laws.specs.Sector.{HalfEdge, origin, left, twin, IsNext, AreDistinct, IsPlanar}
use Rattle.sector_laws.proofs.Sectors.{next_joined}
use Rattle.sector_laws.proofs.Angles.{true_or_false}
use Rattle.region_laws.specs.Below.{IsNearestBelow, HasNoneBelow}
use Rattle.region_laws.specs.Linked.{LeavesOverRay, IsKept}
use Rattle.region_laws.specs.Weights.{side_weight, weigh_sides}
use Rattle.region_laws.proofs.Links.{link_down, link_out}
use Rattle.region_laws.proofs.Balance.{first_or_later, distinct_first, distinct_rest, balanced_sides}
use Rattle.region_laws.proofs.Nearest.{nearest_or_none}
use Rattle.region_laws.proofs.Outwards.{ComesUp, leaves_at, below_earlier, of_all, some_out}

-- ---- the weights of distinct edges

edges_of_weights : (passes : HalfEdge → Bool) (edges : List Seg) → edges_of (weigh_sides passes edges) ≡ edges
edges_of_weights passes [] = refl
edges_of_weights passes (e ∷ es) = ap (λ t. e ∷ t) (edges_of_weights passes es)

abbrev jump : (HalfEdge → Bool) → Seg → ℤ
jump passes e = side_weight passes (record { edge = e; forwards = false }) -ℤ side_weight passes (record { edge = e; forwards = true })

not_same : (e f : Seg) → ((e ≡ f) → ⊥) → is_same_seg e f ≡ false
not_same e f n = elim (true_or_false (is_same_seg e f)) [ inl same ↦ absurd (n ((Decides-same_segs e f).0 same)) | inr other ↦ other ]

weight_none : (passes : HalfEdge → Bool) (e : Seg) (edges : List Seg) → (Contains edges e → ⊥) → weight_of e (weigh_sides passes edges) ≡ pos 0
weight_none passes e [] none = refl
weight_none passes e (f ∷ fs) none =
    let other = not_same e f (λ same. none (subst (λ t. Contains (f ∷ fs) t) (sym same) (contains_here f fs))) in
    let first = ap (λ t. cond t (jump passes f) (pos 0)) other in
    let rest = weight_none passes e fs (λ c. none (contains_there f e fs c)) in
    omega (arith, lin)

weight_once : (passes : HalfEdge → Bool) (e : Seg) (edges : List Seg) → AreDistinct edges → Contains edges e → weight_of e (weigh_sides passes edges) ≡ jump passes e
weight_once passes e [] distinct c = absurd (omega (arith, c.1))
weight_once passes e (f ∷ fs) distinct c =
    elim (first_or_later f fs e c) [
      | inl here ↦ (
          let first = ap (λ t. cond t (jump passes f) (pos 0)) ((Decides-same_segs e f).1 (sym here)) in
          let rest = weight_none passes e fs (λ i. distinct_first f fs distinct (subst (λ t. Contains fs t) (sym here) i)) in
          let own = ap (jump passes) here in
          omega (arith, lin)
          )
      | inr later ↦ (
          let other = not_same e f (λ same. distinct_first f fs distinct (subst (λ t. Contains fs t) same later)) in
          let first = ap (λ t. cond t (jump passes f) (pos 0)) other in
          let rest = weight_once passes e fs (distinct_rest f fs distinct) later in
          omega (arith, lin)
          )
    ]

-- ---- tests that a walk keeps

-- a half-edge that leaves an earlier vertex than v passes as g, and has a side point that is joined with that of g
pub record PassesEarlier (edges : List Seg) (passes : HalfEdge → Bool) (v : Coord) (g : HalfEdge) : Type 0 where
  pub half_edge : HalfEdge
  pub among : Contains edges half_edge.edge
  pub earlier : IsTrue (is_before (origin half_edge) v)
  pub same : passes g ≡ passes half_edge
  pub joined : Joined edges (left g) (left half_edge)

-- g, which leaves v over the ray, passes as the upper side of the nearest edge below v, or as the outer region where none is below v
pub record PassesDown (edges : List Seg) (passes : HalfEdge → Bool) (outer : Bool) (v : Coord) (g : HalfEdge) : Type 0 where
  pub down : (e : Seg) → IsNearestBelow edges (at_coord v) e → passes g ≡ passes (record { edge = e; forwards = true })
  pub out : HasNoneBelow edges (at_coord v) → passes g ≡ outer

-- the test is the same on half-edges that follow one another, and at each half-edge over the ray as at an earlier one or down the ray
pub record IsWalkTest (edges : List Seg) (passes : HalfEdge → Bool) (outer : Bool) : Type 0 where
  pub next : (h g : HalfEdge) → IsNext edges h g → passes h ≡ passes g
  pub over : (v : Coord) (g : HalfEdge) → LeavesOverRay edges v g → PassesEarlier edges passes v g ⊎ PassesDown edges passes outer v g

-- ---- the sum on the left of a half-edge, less its own weight, is one number

module _ (edges : List Seg) (planar : IsPlanar edges) (distinct : AreDistinct edges) (passes : HalfEdge → Bool) (outer : Bool) (walk : IsWalkTest edges passes outer) where
  in_range : (e : Seg) → Contains edges e → IsSegInRange e
  in_range e c = All-contains IsSegInRange edges e planar.in_range c

  abbrev sum_at : Point → ℤ
  sum_at p = crossing_sum (weigh_sides passes edges) p

  abbrev level : HalfEdge → ℤ
  level h = sum_at (left h) -ℤ side_weight passes h

  sum_joined : (p q : Point) → Joined edges p q → sum_at p ≡ sum_at q
  sum_joined p q j =
      let same = edges_of_weights passes edges in
      crossing_sum-joined (weigh_sides passes edges) (subst (λ es. IsSwept es) (sym same) (λ e c. rises-in_range e (in_range e c)))
      (balanced_sides edges planar distinct passes walk.next) p q (subst (λ es. Joined es p q) (sym same) j)

  sum_across : (e : Seg) → Contains edges e → sum_at (lower e) ≡ sum_at (upper e) +ℤ jump passes e
  sum_across e c =
      let same = edges_of_weights passes edges in
      let all : AllMeetInEnds e edges = λ f i. (in_range f i, planar.noded e f c i) in
      let across = crossing_sum-across e (weigh_sides passes edges) (in_range e c) (subst (λ es. AllMeetInEnds e es) (sym same) all) in
      let once = weight_once passes e edges distinct c in
      omega (arith, lin)

  level-twin : (h : HalfEdge) → Contains edges h.edge → level h ≡ level (twin h)
  level-twin h c = by_direction h.forwards
    where
      by_direction : (b : Bool) → level (record { edge = h.edge; forwards = b }) ≡ level (twin (record { edge = h.edge; forwards = b }))
      by_direction true = (let across = sum_across h.edge c in omega (arith, lin))
      by_direction false = (let across = sum_across h.edge c in omega (arith, lin))

  same_level : (h g : HalfEdge) → Joined edges (left h) (left g) → passes h ≡ passes g → level h ≡ level g
  same_level h g j same =
      let sums = sum_joined (left h) (left g) j in
      let weights = ap (λ t. pos (cond t 1 0)) same in
      omega (arith, lin)

  abbrev far_level : ℤ
  far_level = sum_at far_point -ℤ pos (cond outer 1 0)

  level_out : (h : HalfEdge) → IsOuter edges (left h) → passes h ≡ outer → level h ≡ far_level
  level_out h j same =
      let sums = sum_joined (left h) far_point j in
      let weights = ap (λ t. pos (cond t 1 0)) same in
      omega (arith, lin)

  level_comes_up : ComesUp edges (λ h. level h ≡ far_level)
  level_comes_up = record {
    turn = λ h g next rest. level-twin h next.among ∙ same_level (twin h) g (next_joined edges planar (twin h) g next) (walk.next (twin h) g next) ∙ rest;
    over = λ v g over earlier. elim (walk.over v g over) [
      | inl back ↦ same_level g back.half_edge back.joined back.same ∙ earlier back.half_edge back.among back.earlier
      | inr ahead ↦ elim (nearest_or_none edges planar (at_coord v)) [
        | inl found ↦ (
            let e = found.0 in
            let below : HalfEdge = record { edge = e; forwards = true } in
            same_level g below (link_down edges planar v g over e found.1) (ahead.down e found.1)
            ∙ earlier below found.1.below.among (below_earlier edges planar v g (leaves_at edges v g over) e found.1)
            )
        | inr none ↦ level_out g (link_out edges planar v g over none) (ahead.out none)
      ]
    ];
  }

  level_is : (h : HalfEdge) → Contains edges h.edge → level h ≡ far_level
  level_is h c = of_all edges planar (λ k. level k ≡ far_level) level_comes_up h c

  one_weight : (a b : Bool) → pos (cond a 1 0) ≡ pos (cond b 1 0) → a ≡ b
  one_weight true true e = refl
  one_weight true false e = absurd (omega (arith, lin))
  one_weight false true e = absurd (omega (arith, lin))
  one_weight false false e = refl

  pub walk_test_joined : (h g : HalfEdge) → Contains edges h.edge → Contains edges g.edge → Joined edges (left h) (left g) → passes h ≡ passes g
  walk_test_joined h g in_h in_g j =
      let sums = sum_joined (left h) (left g) j in
      let first = level_is h in_h in
      let second = level_is g in_g in
      one_weight (passes h) (passes g) (omega (arith, lin))

  pub walk_test_outer : (h : HalfEdge) → Contains edges h.edge → IsOuter edges (left h) → passes h ≡ outer
  walk_test_outer h c j =
      let sums = sum_joined (left h) far_point j in
      let far = level_is h c in
      one_weight (passes h) outer (omega (arith, lin))

-- ---- tests that all links keep

pub kept_joined : (edges : List Seg) → IsPlanar edges → AreDistinct edges → (passes : HalfEdge → Bool) → IsKept edges passes
    → (h g : HalfEdge) → Contains edges h.edge → Contains edges g.edge → Joined edges (left h) (left g) → passes h ≡ passes g
kept_joined edges planar distinct passes kept h g in_h in_g j =
    let out = some_out edges planar h in_h in
    walk_test_joined edges planar distinct passes (passes out.half_edge)
    (record {
      next = kept.next;
      over = λ v k over. inr (record { down = kept.down v k over; out = λ none. kept.out v out.vertex k out.half_edge over none out.leaves out.none });
    })
    h g in_h in_g j
