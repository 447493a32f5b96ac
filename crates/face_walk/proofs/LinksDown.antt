-- The link down the ray from a side, and which sides have one.
use mathlib.Core.List.{List}
use Rattle.std.proofs.Common.{◌≡◌, refl, sym, ◌∙◌, ap, subst, ℕ, ◌*◌, ◌<◌, length, slice_index, IsTrue, Contains, Bool, true, false, true≢false, not, ◌&&◌, int_eq, Some, None, Option, slice_get, ◌↔◌, inl, inr}
use Rattle.cov_types.specs.declared.coord.Coord.{Coord}
use Rattle.cov_types.specs.declared.seg.Seg.{Seg}
use Rattle.cov_types.specs.Coord.{is_before}
use Rattle.cov_types.specs.Range.{IsInRange}
use Rattle.cov_types.proofs.Equal.{Decides-same_coords}
use Rattle.cov_types.proofs.Order.{cases_coords}
use Rattle.half_edge.proofs.Counts.{some_half_edge}
use Rattle.plane.specs.Point.{at_coord}
use Rattle.sector_laws.specs.Sector.{HalfEdge, origin, twin, is_before_by_angle, IsHalfEdge, IsNext, IsNextNumber, IsPlanar, AreDistinct}
use Rattle.sector_laws.proofs.Next.{next_of_one}
use Rattle.sector_laws.proofs.Numbers.{forwards_number, half_edge_among, one_half_edge, one_number}
use Rattle.region_laws.specs.Below.{IsNearestBelow, HasNoneBelow}
use Rattle.region_laws.specs.Linked.{IsNumberOverRay, IsNumberFrom}
use Rattle.face_walk.specs.Cycles.{IsNoEarlier}
use Rattle.face_walk.specs.Links.{IsOver, BeginsAt, AnswersOverRay, IsLinkBelow, place_below}
use Rattle.face_walk.specs.Nearest.{IsNearestAnswer}
use Rattle.face_walk.specs.declared.cycle.Cycle.{Cycle}
use Rattle.face_walk.proofs.Nearer.{in_range_of, one_nearest}

pub origin_in_range : (edges : List Seg) → IsPlanar edges → (h : ℕ) (v : Coord) → h < 2 * length edges → BeginsAt edges h v → IsInRange v
origin_in_range edges planar h v below begins =
    let (g, at) = some_half_edge edges h below in
    subst (λ c. IsInRange c) (sym (begins g at)) (by_direction g.forwards g.edge (half_edge_among edges h g at))
  where
    by_direction : (b : Bool) (e : Seg) → Contains edges e → IsInRange (origin (record { edge = e; forwards = b }))
    by_direction true e c = (in_range_of edges planar e c).lo
    by_direction false e c = (in_range_of edges planar e c).hi

-- ---- the place below

vertex_is : (edges : List Seg) (h : ℕ) (v w : Coord) → BeginsAt edges h v → IsNumberOverRay edges h w → v ≡ w
vertex_is edges h v w begins over = begins over.half_edge over.is ∙ over.leaves.from

-- a link leads down from the side to the place of the nearest edge below its vertex, and to no other
pub link_place : (edges : List Seg) → IsPlanar edges → AreDistinct edges → (h : ℕ) (v : Coord) → BeginsAt edges h v → IsOver edges h
    → (answer : Option ℕ) → IsNearestAnswer edges (at_coord v) answer → (m : ℕ) → IsLinkBelow edges h m ↔ (m ≡ place_below edges answer)
link_place edges planar distinct h v begins over (Some k) found m =
    let number = forwards_number edges k found.edge found.at_place in (
      λ link. elim link [
        | inl down ↦ (
            let here = sym (vertex_is edges h v down.vertex begins down.from) in
            let same = one_nearest edges planar (at_coord v) down.edge found.edge (subst (λ c. IsNearestBelow edges (at_coord c) down.edge) here down.nearest) found.nearest in
            one_number edges distinct m (2 * k) (record { edge = found.edge; forwards = true })
            (subst (λ e. IsHalfEdge edges m (record { edge = e; forwards = true })) same down.to) number
            )
        | inr out ↦ (
            let here = sym (vertex_is edges h v out.0.vertex begins out.0.from) in
            absurd (subst (λ c. HasNoneBelow edges (at_coord c)) here out.0.none found.edge found.nearest.below)
            )
      ],
      λ same. inl (record {
        vertex = over.0;
        from = over.1;
        edge = found.edge;
        nearest = subst (λ c. IsNearestBelow edges (at_coord c) found.edge) (vertex_is edges h v over.0 begins over.1) found.nearest;
        to = subst (λ n. IsHalfEdge edges n (record { edge = found.edge; forwards = true })) (sym same) number;
      }),
    )
link_place edges planar distinct h v begins over None none m = (
  λ link. elim link [
    | inl down ↦ (
        let here = sym (vertex_is edges h v down.vertex begins down.from) in
        absurd (none down.edge (subst (λ c. IsNearestBelow edges (at_coord c) down.edge) here down.nearest).below)
        )
    | inr out ↦ out.1
  ],
  λ same. inr (record { vertex = over.0; from = over.1; none = subst (λ c. HasNoneBelow edges (at_coord c)) (vertex_is edges h v over.0 begins over.1) none }, same),
)

-- ---- where the sector has the way straight down the ray in it

-- what the code tells of the half-edge h
abbrev pub Opens : List Seg → ℕ → Bool → Type 0
Opens edges h opens = (f g : HalfEdge) → IsHalfEdge edges h f → IsNext edges f g → opens ≡ not (is_before_by_angle g (twin f))

not_false : (b : Bool) → b ≡ false → not b ≡ true
not_false b h = ap not h

false_from_not : (b : Bool) → not b ≡ true → b ≡ false
false_from_not true h = absurd (true≢false (sym h))
false_from_not false h = refl

over_next : (edges : List Seg) (h m : ℕ) (opens : Bool) → Opens edges h opens → opens ≡ true → IsNextNumber edges h m → IsOver edges m
over_next edges h m opens tells wide next = (
  origin next.to,
  record {
    half_edge = next.to;
    is = next.to_is;
    leaves = record {
      before = next.from;
      over = record { follows = next.follows; past_down = false_from_not (is_before_by_angle next.to (twin next.from)) (sym (tells next.from next.to next.from_is next.follows) ∙ wide) };
      from = refl;
    };
  },
)

over_opens : (edges : List Seg) → IsPlanar edges → (h m : ℕ) (opens : Bool) → Opens edges h opens → IsNextNumber edges h m → (v : Coord) → IsNumberOverRay edges m v → opens ≡ true
over_opens edges planar h m opens tells next v over =
    let to = one_half_edge edges m next.to over.half_edge next.to_is over.is in
    let follows = subst (λ g. IsNext edges next.from g) to next.follows in
    let from = next_of_one edges planar next.from over.leaves.before over.half_edge follows over.leaves.over.follows in
    tells next.from over.half_edge next.from_is follows
    ∙ not_false (is_before_by_angle over.half_edge (twin next.from)) (ap (λ f. is_before_by_angle over.half_edge (twin f)) from ∙ over.leaves.over.past_down)

-- ---- the answer of the code

module _ (edges : List Seg) (of : List ℕ) (list : List Cycle) where
  -- none where the sector does not open
  pub answers_shut : IsPlanar edges → (h : ℕ) (opens : Bool) → Opens edges h opens → opens ≡ false → AnswersOverRay edges of list h None
  answers_shut planar h opens tells shut = record {
    sound = tt;
    complete = λ n v next over. absurd (true≢false (sym (over_opens edges planar h n opens tells next v over) ∙ shut));
  }

  number_from : (k : ℕ) (w : Coord) → k < 2 * length edges → BeginsAt edges k w → IsNumberFrom edges k w
  number_from k w below begins = (let (g, at) = some_half_edge edges k below in record { half_edge = g; is = at; from = sym (begins g at) })

  -- none where the first half-edge of the cycle leaves another vertex
  pub answers_later : (h side : ℕ) (cycle : Cycle) (v w : Coord) → side < 2 * length edges → cycle.first < 2 * length edges → slice_get list (slice_index of side) ≡ Some cycle
      → IsNoEarlier edges side cycle.first → ((m : ℕ) → IsNextNumber edges h m → m ≡ side) → BeginsAt edges side v → BeginsAt edges cycle.first w → (v ≡ w → ⊥)
      → AnswersOverRay edges of list h None
  answers_later h side cycle v w below first_below at no_earlier only begins begins_first other = record {
    sound = tt;
    complete = λ n u next over. (
        let same : n ≡ side = only n next in
        let here : v ≡ u = vertex_is edges side v u begins (subst (λ m. IsNumberOverRay edges m u) same over) in
        let at_first = number_from cycle.first w first_below begins_first in
        inl (record {
          cycle = cycle;
          at_place = ap (λ m. slice_get list (slice_index of m)) same ∙ at;
          vertex = w;
          from = at_first;
          earlier = subst (λ c. IsTrue (is_before w c)) here (elim (cases_coords w v) [
            | inl before ↦ before
            | inr rest ↦ elim rest [
              | inl equal ↦ absurd (other (sym equal))
              | inr after ↦ absurd (no_earlier v w (number_from side v below begins) at_first after)
            ]
          ]);
        })
        );
  }

  -- the side that follows
  pub answers_side : (h side : ℕ) (opens : Bool) → Opens edges h opens → opens ≡ true → IsNextNumber edges h side → ((m : ℕ) → IsNextNumber edges h m → m ≡ side)
      → AnswersOverRay edges of list h (Some side)
  answers_side h side opens tells wide next only = record {
    sound = over_next edges h side opens tells wide next;
    complete = λ n v next_n over. inr (ap Some (sym (only n next_n)));
  }

-- what `!=` says
pub differs : (w v : Coord) (other : Bool) → other ≡ not (int_eq w.x v.x && int_eq w.y v.y) → other ≡ true → w ≡ v → ⊥
differs w v other test is same = true≢false (sym is ∙ test ∙ ap not ((Decides-same_coords w v).1 same))
