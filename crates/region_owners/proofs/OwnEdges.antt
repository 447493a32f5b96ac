-- A region that is not outer has an edge of its own under each of its points, and one over it.
use mathlib.Core.List.{[], ◌∷◌}
use Rattle.std.proofs.Common.{◌≡◌, ◌⊎◌, refl, sym, ◌∙◌, ap, subst, ℕ, ◌==◌, Bool, true, false, cond, List, IsTrue, ℤ, pos, ◌+ℤ◌, ◌-ℤ◌, inl, inr, arith}
use Rattle.std.specs.Prelude.{Contains, slice_index}
use Rattle.std.proofs.lemmas.Bool.{false_from_ne_true}
use Rattle.std.proofs.lemmas.Bool.Decides.{Decides-eqb}
use Rattle.std.proofs.lemmas.Int.{ints}
use Rattle.std.proofs.lemmas.List.Elements.{All-contains}
use Rattle.cov_types.specs.declared.seg.Seg.{Seg}
use Rattle.cov_types.specs.Range.{IsSegInRange}
use Rattle.cov_types.proofs.Equal.{Decides-same_segs}
use Rattle.integer_laws.proofs.Compare.{eq_or_not}
use Rattle.integer_laws.proofs.Ring.{lin}
use Rattle.plane.specs.Point.{Point, at_coord}
use Rattle.plane.specs.Segment.{upper, lower}
use Rattle.plane.specs.Joined.{Joined}
use Rattle.plane.specs.Ray.{sweep, is_over}
use Rattle.plane.specs.Region.{far_point, IsOuter, IsOuterRegion, IsRegionOf, AreRegions}
use Rattle.plane.proofs.Over.{over-is}
use Rattle.plane.proofs.Sweeps.{rises-in_range}
use Rattle.crossing_laws.specs.Across.{AllMeetInEnds, is_same_seg, weight_of}
use Rattle.crossing_laws.specs.Crossing.{edges_of, crossing_sum, IsSwept}
use Rattle.crossing_laws.proofs.Changes.{crossing_sum-across}
use Rattle.crossing_laws.proofs.Lists.{contains_here, contains_there}
use Rattle.crossing_laws.proofs.Located.{one_region, region-joined, same_region}
use Rattle.crossing_laws.proofs.Sums.{crossing_sum-joined}
use Rattle.crossing_laws.proofs.Ways.{joined_off, joined-sym, joined-trans}
use Rattle.sector_laws.specs.Sector.{HalfEdge, left, twin, IsNext, AreDistinct, IsPlanar}
use Rattle.sector_laws.proofs.Angles.{true_or_false}
use Rattle.sector_laws.proofs.Numbers.{half_edge_side}
use Rattle.sector_laws.proofs.Sectors.{next_joined}
use Rattle.region_laws.specs.Below.{is_under}
use Rattle.region_laws.specs.Weights.{side_weight, weigh_sides}
use Rattle.region_laws.proofs.Balance.{first_or_later, distinct_first, distinct_rest, balanced_sides}
use Rattle.region_laws.proofs.Edge.{below_joined, none_below_outer}
use Rattle.region_laws.proofs.Exists.{regions_exist}
use Rattle.region_laws.proofs.Links.{link_down, link_out}
use Rattle.region_laws.proofs.Nearest.{nearest_or_none}
use Rattle.region_laws.proofs.Numbered.{index, index_is}
use Rattle.region_laws.proofs.Outwards.{ComesUp, leaves_at, below_earlier, of_all}
use Rattle.region_owners.specs.Box.{IsEdgeOf}

-- ---- the outer region

outer_is : (edges : List Seg) (p : Point) (r : ℕ) → IsRegionOf edges p r → IsOuter edges p → IsOuterRegion edges r
outer_is edges p r own out = record {
  outer = record { at = own.joined.at; side = own.joined.side; outer = joined-trans edges own.joined.at p far_point (joined-sym edges p own.joined.at own.joined.joined) out };
  least = λ n o. own.least n (record { at = o.at; side = o.side; joined = joined-trans edges p far_point o.at out (joined-sym edges o.at far_point o.outer) });
}

-- ---- the weights of distinct edges, and sums of them

module _ (passes : HalfEdge → Bool) where
  abbrev pub jump : Seg → ℤ
  jump e = side_weight passes (record { edge = e; forwards = false }) -ℤ side_weight passes (record { edge = e; forwards = true })

  pub weighed_edges : (edges : List Seg) → edges_of (weigh_sides passes edges) ≡ edges
  weighed_edges [] = refl
  weighed_edges (e ∷ es) = ap (λ t. e ∷ t) (weighed_edges es)

  other_seg : (e f : Seg) → ((e ≡ f) → ⊥) → is_same_seg e f ≡ false
  other_seg e f n = false_from_ne_true (is_same_seg e f) (λ same. n ((Decides-same_segs e f).0 same))

  weight_none : (e : Seg) (edges : List Seg) → (Contains edges e → ⊥) → weight_of e (weigh_sides passes edges) ≡ pos 0
  weight_none e [] none = refl
  weight_none e (f ∷ fs) none =
      let other = other_seg e f (λ same. none (subst (λ t. Contains (f ∷ fs) t) (sym same) (contains_here f fs))) in
      let first = ap (λ t. cond t (jump f) (pos 0)) other in
      let rest = weight_none e fs (λ c. none (contains_there f e fs c)) in
      omega (arith, lin)

  weight_once : (e : Seg) (edges : List Seg) → AreDistinct edges → Contains edges e → weight_of e (weigh_sides passes edges) ≡ jump e
  weight_once e [] distinct c = absurd (omega (arith, c.1))
  weight_once e (f ∷ fs) distinct c =
      elim (first_or_later f fs e c) [
        | inl here ↦ (
            let first = ap (λ t. cond t (jump f) (pos 0)) ((Decides-same_segs e f).1 (sym here)) in
            let rest = weight_none e fs (λ i. distinct_first f fs distinct (subst (λ t. Contains fs t) (sym here) i)) in
            let own = ap jump here in
            omega (arith, lin)
            )
        | inr later ↦ (
            let other = other_seg e f (λ same. distinct_first f fs distinct (subst (λ t. Contains fs t) same later)) in
            let first = ap (λ t. cond t (jump f) (pos 0)) other in
            let rest = weight_once e fs (distinct_rest f fs distinct) later in
            omega (arith, lin)
            )
      ]

  sum_none : (edges : List Seg) (p : Point) → ((e : Seg) → Contains edges e → is_over e p ≡ false) → crossing_sum (weigh_sides passes edges) p ≡ pos 0
  sum_none [] p none = refl
  sum_none (e ∷ es) p none =
      let first = ap (λ t. cond t (jump e) (pos 0)) (none e (contains_here e es)) in
      let rest = sum_none es p (λ f c. none f (contains_there e f es c)) in
      omega (arith, lin)

  -- an edge over p that weighs something
  record WeighsOver (edges : List Seg) (p : Point) : Type 0 where
    edge : Seg
    among : Contains edges edge
    over : is_over edge p ≡ true
    weighs : jump edge ≡ pos 0 → ⊥

  over_later : (e : Seg) (es : List Seg) (p : Point) → WeighsOver es p → WeighsOver (e ∷ es) p
  over_later e es p found = record { edge = found.edge; among = contains_there e found.edge es found.among; over = found.over; weighs = found.weighs }

  some_over : (edges : List Seg) (p : Point) → (crossing_sum (weigh_sides passes edges) p ≡ pos 0 → ⊥) → WeighsOver edges p
  some_over [] p h = absurd (h refl)
  some_over (e ∷ es) p h = by (λ none. over_later e es p (some_over es p (λ rest. h (omega (arith, lin))))) (true_or_false (is_over e p))
    where
      by : (cond (is_over e p) (jump e) (pos 0) ≡ pos 0 → WeighsOver (e ∷ es) p) → (is_over e p ≡ true) ⊎ (is_over e p ≡ false) → WeighsOver (e ∷ es) p
      by later (inr not_over) = later (ap (λ t. cond t (jump e) (pos 0)) not_over)
      by later (inl over) = elim (eq_or_not (jump e) (pos 0)) [
        | inl none ↦ later (ap (λ t. cond t (jump e) (pos 0)) over ∙ none)
        | inr weighs ↦ record { edge = e; among = contains_here e es; over = over; weighs = weighs }
      ]

  pub one_passes : (e : Seg) → (jump e ≡ pos 0 → ⊥) → (passes (record { edge = e; forwards = true }) ≡ true) ⊎ (passes (record { edge = e; forwards = false }) ≡ true)
  one_passes e weighs = elim (true_or_false (passes (record { edge = e; forwards = true }))) [
    | inl up ↦ inl up
    | inr not_up ↦ elim (true_or_false (passes (record { edge = e; forwards = false }))) [
      | inl down ↦ inr down
      | inr not_down ↦ (
          let first = ap (λ t. pos (cond t 1 0)) not_up in
          let second = ap (λ t. pos (cond t 1 0)) not_down in
          absurd (weighs (omega (arith, lin)))
          )
    ]
  ]

-- no edge in range is over the point past the range
not_over_far : (e : Seg) → IsSegInRange e → is_over e far_point ≡ false
unfolding sweep
not_over_far e range = false_from_ne_true (is_over e far_point) (λ t. (let over = (over-is e far_point).0 t in let to = over.to in let right = range.hi.right in let top = range.hi.top in omega (arith, ints)))

-- ---- a test on sides that is the same at joined side points and false outside

pub record IsSideTest (edges : List Seg) (passes : HalfEdge → Bool) : Type 0 where
  pub same : (h g : HalfEdge) → Contains edges h.edge → Contains edges g.edge → Joined edges (left h) (left g) → passes h ≡ passes g
  pub outside : (h : HalfEdge) → Contains edges h.edge → IsOuter edges (left h) → passes h ≡ false

module _ (edges : List Seg) (planar : IsPlanar edges) (distinct : AreDistinct edges) (passes : HalfEdge → Bool) (test : IsSideTest edges passes) where
  pub of_range : (e : Seg) → Contains edges e → IsSegInRange e
  of_range e c = All-contains IsSegInRange edges e planar.in_range c

  pub passes_next : (h g : HalfEdge) → IsNext edges h g → passes h ≡ passes g
  passes_next h g next = test.same h g next.among next.leaves.among (next_joined edges planar h g next)

  -- what the edges over a point weigh
  abbrev pub sum_at : Point → ℤ
  sum_at p = crossing_sum (weigh_sides passes edges) p

  pub sum_joined : (p q : Point) → Joined edges p q → sum_at p ≡ sum_at q
  sum_joined p q j =
      let same = weighed_edges passes edges in
      crossing_sum-joined (weigh_sides passes edges) (subst (λ es. IsSwept es) (sym same) (λ e c. rises-in_range e (of_range e c)))
      (balanced_sides edges planar distinct passes passes_next) p q (subst (λ es. Joined es p q) (sym same) j)

  sum_across : (e : Seg) → Contains edges e → sum_at (lower e) ≡ sum_at (upper e) +ℤ jump passes e
  sum_across e c =
      let same = weighed_edges passes edges in
      let all : AllMeetInEnds e edges = λ f i. (of_range f i, planar.noded e f c i) in
      let across = crossing_sum-across e (weigh_sides passes edges) (of_range e c) (subst (λ es. AllMeetInEnds e es) (sym same) all) in
      let once = weight_once passes e edges distinct c in
      omega (arith, lin)

  sum_far : sum_at far_point ≡ pos 0
  sum_far = sum_none passes edges far_point (λ e c. not_over_far e (of_range e c))

  -- on the left of a half-edge the sum is its own weight
  abbrev IsOwnSum : HalfEdge → Type 0
  IsOwnSum h = sum_at (left h) ≡ side_weight passes h

  own_sum_twin : (h : HalfEdge) → Contains edges h.edge → IsOwnSum (twin h) → IsOwnSum h
  own_sum_twin h c own = by_direction h.forwards own
    where
      by_direction : (b : Bool) → IsOwnSum (twin (record { edge = h.edge; forwards = b })) → IsOwnSum (record { edge = h.edge; forwards = b })
      by_direction true k = (let across = sum_across h.edge c in omega (arith, lin))
      by_direction false k = (let across = sum_across h.edge c in omega (arith, lin))

  own_sum_joined : (h g : HalfEdge) → Contains edges h.edge → Contains edges g.edge → Joined edges (left h) (left g) → IsOwnSum g → IsOwnSum h
  own_sum_joined h g in_h in_g j own = sum_joined (left h) (left g) j ∙ own ∙ sym (ap (λ t. pos (cond t 1 0)) (test.same h g in_h in_g j))

  own_sum_out : (h : HalfEdge) → Contains edges h.edge → IsOuter edges (left h) → IsOwnSum h
  own_sum_out h c out = sum_joined (left h) far_point out ∙ sum_far ∙ sym (ap (λ t. pos (cond t 1 0)) (test.outside h c out))

  own_sum_comes_up : ComesUp edges IsOwnSum
  own_sum_comes_up = record {
    turn = λ h g next rest. own_sum_twin h next.among (own_sum_joined (twin h) g next.among next.leaves.among (next_joined edges planar (twin h) g next) rest);
    over = λ v g over earlier. (
        let at = leaves_at edges v g over in
        elim (nearest_or_none edges planar (at_coord v)) [
          | inl found ↦ (
              let e = found.0 in
              let below : HalfEdge = record { edge = e; forwards = true } in
              own_sum_joined g below at.among found.1.below.among (link_down edges planar v g over e found.1) (earlier below found.1.below.among (below_earlier edges planar v g at e found.1))
              )
          | inr none ↦ own_sum_out g at.among (link_out edges planar v g over none)
        ]
        );
  }

  pub own_sum : (h : HalfEdge) → Contains edges h.edge → IsOwnSum h
  own_sum h c = of_all edges planar IsOwnSum own_sum_comes_up h c

-- ---- the edges of one region

module _ (edges : List Seg) (planar : IsPlanar edges) (distinct : AreDistinct edges) (r : ℕ) (inner : ¬ IsOuterRegion edges r) where
  pub in_range : (e : Seg) → Contains edges e → IsSegInRange e
  in_range e c = All-contains IsSegInRange edges e planar.in_range c

  pub edge_under : (p : Point) → IsRegionOf edges p r → (e : Seg) × (IsEdgeOf edges r e × IsTrue (is_under e p) × IsRegionOf edges (upper e) r)
  edge_under p own =
      let off = joined_off edges p own.joined.at own.joined.joined in
      elim (nearest_or_none edges planar p) [
        | inl found ↦ (
            let e = found.0 in
            let above = region-joined edges p (upper e) r (below_joined edges planar p off e found.1) own in
            (e, (record { among = found.1.below.among; beside = inl above }, found.1.below.under, above))
            )
        | inr none ↦ absurd (inner (outer_is edges p r own (none_below_outer edges planar p off none)))
      ]

  module _ (numbers : List ℕ) (regions : AreRegions edges numbers) where
    abbrev number : HalfEdge → ℕ
    number h = slice_index numbers (index edges h)

    -- the region is on the left of the half-edge
    abbrev pub passes : HalfEdge → Bool
    passes h = number h == r

    number_is : (h : HalfEdge) → Contains edges h.edge → IsRegionOf edges (left h) (number h)
    number_is h c = regions.each (index edges h) (left h) (half_edge_side edges (index edges h) h (index_is edges h c))

    pub own_passes : (h : HalfEdge) → Contains edges h.edge → IsRegionOf edges (left h) r → passes h ≡ true
    own_passes h c own = (Decides-eqb (number h) r).1 (one_region edges (left h) (number h) r (number_is h c) own)

    pub passes_own : (h : HalfEdge) → Contains edges h.edge → passes h ≡ true → IsRegionOf edges (left h) r
    passes_own h c t = subst (λ n. IsRegionOf edges (left h) n) ((Decides-eqb (number h) r).0 t) (number_is h c)

    passes_joined : (h g : HalfEdge) → Contains edges h.edge → Contains edges g.edge → Joined edges (left h) (left g) → passes h ≡ passes g
    passes_joined h g in_h in_g j =
        ap (λ n. n == r) (one_region edges (left g) (number h) (number g) (region-joined edges (left h) (left g) (number h) j (number_is h in_h)) (number_is g in_g))

    outer_fails : (h : HalfEdge) → Contains edges h.edge → IsOuter edges (left h) → passes h ≡ false
    outer_fails h c out = false_from_ne_true (passes h) (λ t. inner (outer_is edges (left h) r (passes_own h c t) out))

    pub region_test : IsSideTest edges passes
    region_test = record { same = passes_joined; outside = outer_fails }

    pub sum_within : (p : Point) → IsRegionOf edges p r → sum_at edges planar distinct passes region_test p ≡ pos 1
    sum_within p own =
        let found = edge_under p own in
        let e = found.0 in
        let above = found.1.2 in
        let h : HalfEdge = record { edge = e; forwards = true } in
        sum_joined edges planar distinct passes region_test p (upper e) (same_region edges p (upper e) r own above) ∙ own_sum edges planar distinct passes region_test h found.1.0.among ∙ ap (λ t. pos (cond t 1 0)) (own_passes h found.1.0.among above)

    over_by : (p : Point) → IsRegionOf edges p r → (e : Seg) × (IsEdgeOf edges r e × IsTrue (is_over e p))
    over_by p own =
        let found = some_over passes edges p (λ none. (let one = sum_within p own in absurd (omega (arith, lin)))) in
        let e = found.edge in (
          e,
          (
            record {
              among = found.among;
              beside = elim (one_passes passes e found.weighs) [
                | inl up ↦ inl (passes_own (record { edge = e; forwards = true }) found.among up)
                | inr down ↦ inr (passes_own (record { edge = e; forwards = false }) found.among down)
              ];
            },
            found.over,
          ),
        )

  pub edge_over : (p : Point) → IsRegionOf edges p r → (e : Seg) × (IsEdgeOf edges r e × IsTrue (is_over e p))
  edge_over p own = let some = regions_exist edges planar distinct in over_by some.0 some.1 p own
