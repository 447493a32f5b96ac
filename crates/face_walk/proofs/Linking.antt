-- The sides over the ray, their vertices, and the links of their cycles.
use mathlib.Core.List.{List, [], ◌∷◌, ◌++◌}
use Rattle.std.proofs.Common.{◌≡◌, refl, sym, ◌∙◌, ap, subst, ℕ, ◌+◌, ◌*◌, ◌<◌, ◌≤◌, length, get_or, Contains, Option, Some, None, slice_get, All, ◌↔◌, ◌⊎◌, inl, inr, arith}
use Rattle.std.proofs.lemmas.Bool.{cases_eq}
use Rattle.std.proofs.lemmas.Option.{same_Some, none-some, slice_get_within, slice_get-get_or, get_or_from_slice_get}
use Rattle.std.proofs.lemmas.List.Elements.{Contains-get_or, Contains-push, Contains-push_cases, Contains-append_left}
use Rattle.cov_types.specs.declared.coord.Coord.{Coord}
use Rattle.cov_types.specs.declared.seg.Seg.{Seg}
use Rattle.cov_types.specs.Range.{IsInRange}
use Rattle.components.specs.declared.link.Link.{Link}
use Rattle.half_edge.proofs.Counts.{number_within}
use Rattle.half_edge.proofs.Tables.{IsTable, table-none, table-push, some_at}
use Rattle.plane.specs.Point.{at_coord}
use Rattle.sector_laws.specs.Sector.{IsNextNumber, IsPlanar, AreDistinct}
use Rattle.sector_laws.proofs.Numbers.{some_number}
use Rattle.region_laws.specs.Linked.{IsNumberOverRay}
use Rattle.face_walk.specs.Links.{IsOver, HasEarlierFirst, AnswersOverRay, AreOverRay, BeginsAt, AreVertices, IsLinkBelow, IsPlaceWithin, place_below, node_of, link_of, AreLinksOf, AreLinks}
use Rattle.face_walk.specs.Nearest.{IsNearestAnswer, AreNearest}
use Rattle.face_walk.specs.declared.cycle.Cycle.{Cycle}
use Rattle.face_walk.proofs.LinksDown.{origin_in_range, link_place}

-- ---- the sides over the ray

-- the sides so far: those that follow the first half-edges
pub record AreOverRayTo (edges : List Seg) (of : List ℕ) (list : List Cycle) (count : ℕ) (sides : List ℕ) : Type 0 where
  pub sound : (n : ℕ) → Contains sides n → IsOver edges n
  pub complete : (h n : ℕ) (v : Coord) → h < count → IsNextNumber edges h n → IsNumberOverRay edges n v → HasEarlierFirst edges of list n v ⊎ Contains sides n

module _ (edges : List Seg) (of : List ℕ) (list : List Cycle) where
  pub over_none : (sides : List ℕ) → sides ≡ [] → AreOverRayTo edges of list 0 sides
  over_none sides is = record {
    sound = λ n c. absurd (let among = subst (λ (xs : List ℕ). Contains xs n) is c in omega (arith, among.1));
    complete = λ h n v lt. absurd (omega (arith, lt));
  }

  pub over_same : (h : ℕ) (sides : List ℕ) → AnswersOverRay edges of list h None → AreOverRayTo edges of list h sides → AreOverRayTo edges of list (h + 1) sides
  over_same h sides answers so_far = record {
    sound = so_far.sound;
    complete = λ k n v lt next over. elim (cases_eq k h) [
      | inl here ↦ elim (answers.complete n v (subst (λ x. IsNextNumber edges x n) here next) over) [
        | inl earlier ↦ inl earlier
        | inr is ↦ absurd (none-some n is)
      ]
      | inr other ↦ so_far.complete k n v (omega (arith, lt, other)) next over
    ];
  }

  pub over_push : (h side : ℕ) (sides after : List ℕ) → AnswersOverRay edges of list h (Some side) → after ≡ sides ++ side ∷ [] → AreOverRayTo edges of list h sides
      → AreOverRayTo edges of list (h + 1) after
  over_push h side sides after answers is so_far = subst (λ (xs : List ℕ). AreOverRayTo edges of list (h + 1) xs) (sym is) (record {
    sound = λ n c. elim (Contains-push_cases sides side n c) [
      | inl early ↦ so_far.sound n early
      | inr last ↦ subst (λ k. IsOver edges k) last answers.sound
    ];
    complete = λ k n v lt next over. elim (cases_eq k h) [
      | inl here ↦ elim (answers.complete n v (subst (λ x. IsNextNumber edges x n) here next) over) [
        | inl earlier ↦ inl earlier
        | inr same ↦ inr (subst (λ m. Contains (sides ++ side ∷ []) m) (same_Some side n same) (Contains-push sides side))
      ]
      | inr other ↦ elim (so_far.complete k n v (omega (arith, lt, other)) next over) [
        | inl earlier ↦ inl earlier
        | inr among ↦ inr (Contains-append_left sides (side ∷ []) n among)
      ]
    ];
  })

  before_number : (n : ℕ) (v : Coord) → IsNumberOverRay edges n v → (h : ℕ) × ((h < 2 * length edges) × IsNextNumber edges h n)
  before_number n v over =
      let f = over.leaves.before in
      let follows = over.leaves.over.follows in
      let (h, at_f) = some_number edges f follows.among in
      (h, (number_within edges h f at_f, record { from = f; to = over.half_edge; from_is = at_f; to_is = over.is; follows = follows }))

  pub over_all : (count : ℕ) (sides : List ℕ) → 2 * length edges ≤ count → AreOverRayTo edges of list count sides → AreOverRay edges of list sides
  over_all count sides all so_far = record {
    sound = so_far.sound;
    complete = λ n v over. (let (h, (below, next)) = before_number n v over in so_far.complete h n v (omega (arith, below, all)) next over);
  }

  pub over_within : (sides : List ℕ) → AreOverRay edges of list sides → All (λ n. n < 2 * length edges) sides
  over_within sides all i d below = (let (v, over) = all.sound (get_or sides i d) (Contains-get_or sides i d below) in number_within edges (get_or sides i d) over.half_edge over.is)

-- ---- their vertices

abbrev pub AreVerticesTo : List Seg → List ℕ → ℕ → List Coord → Type 0
AreVerticesTo edges sides count vertices = IsTable (λ (i : ℕ) (v : Coord). (n : ℕ) → slice_get sides i ≡ Some n → BeginsAt edges n v) vertices count

pub vertices_none : (edges : List Seg) (sides : List ℕ) (vertices : List Coord) → vertices ≡ [] → AreVerticesTo edges sides 0 vertices
vertices_none edges sides vertices is = subst (λ (vs : List Coord). AreVerticesTo edges sides 0 vs) (sym is) (table-none (λ (i : ℕ) (v : Coord). (n : ℕ) → slice_get sides i ≡ Some n → BeginsAt edges n v))

pub vertices_more : (edges : List Seg) (sides : List ℕ) (i n : ℕ) (v : Coord) (vertices after : List Coord) → slice_get sides i ≡ Some n → BeginsAt edges n v → after ≡ vertices ++ v ∷ []
    → AreVerticesTo edges sides i vertices → AreVerticesTo edges sides (i + 1) after
vertices_more edges sides i n v vertices after at begins is so_far = subst (λ (vs : List Coord). AreVerticesTo edges sides (i + 1) vs) (sym is)
    (table-push (λ (i : ℕ) (v : Coord). (n : ℕ) → slice_get sides i ≡ Some n → BeginsAt edges n v) vertices i v so_far (λ m at_m. subst (λ k. BeginsAt edges k v) (same_Some n m (sym at ∙ at_m)) begins))

pub vertices_all : (edges : List Seg) (sides : List ℕ) (count : ℕ) (vertices : List Coord) → count ≡ length sides → AreVerticesTo edges sides count vertices → AreVertices edges sides vertices
vertices_all edges sides count vertices all so_far = record { count = so_far.count ∙ all; each = λ i n v at at_v. so_far.each i v at_v n at }

pub vertices_in_range : (edges : List Seg) → IsPlanar edges → (sides : List ℕ) (vertices : List Coord) → All (λ n. n < 2 * length edges) sides → AreVertices edges sides vertices
    → All IsInRange vertices
vertices_in_range edges planar sides vertices within all i d below =
    let count = all.count in
    let (n, at) = some_at sides i (omega (arith, below, count)) in
    let n_below : n < 2 * length edges = subst (λ k. k < 2 * length edges) (get_or_from_slice_get sides i n n at) (within i n (omega (arith, below, count))) in
    origin_in_range edges planar n (get_or vertices i d) n_below (all.each i n (get_or vertices i d) at (slice_get-get_or vertices i d below))

-- ---- the links

abbrev pub AreLinksTo : List Seg → List ℕ → List Cycle → List ℕ → List (Option ℕ) → ℕ → List Link → Type 0
AreLinksTo edges of list sides answers count links =
    IsTable (λ (i : ℕ) (link : Link). (n : ℕ) (answer : Option ℕ) → slice_get sides i ≡ Some n → slice_get answers i ≡ Some answer → link ≡ link_of edges of list n answer) links count

pub links_none : (edges : List Seg) (of : List ℕ) (list : List Cycle) (sides : List ℕ) (answers : List (Option ℕ)) (links : List Link) → links ≡ [] → AreLinksTo edges of list sides answers 0 links
links_none edges of list sides answers links is = subst (λ (ls : List Link). AreLinksTo edges of list sides answers 0 ls) (sym is)
    (table-none (λ (i : ℕ) (link : Link). (n : ℕ) (answer : Option ℕ) → slice_get sides i ≡ Some n → slice_get answers i ≡ Some answer → link ≡ link_of edges of list n answer))

pub links_more : (edges : List Seg) (of : List ℕ) (list : List Cycle) (sides : List ℕ) (answers : List (Option ℕ)) (i n from to : ℕ) (answer : Option ℕ) (links after : List Link)
    → slice_get sides i ≡ Some n → slice_get answers i ≡ Some answer → from ≡ node_of of list n → to ≡ node_of of list (place_below edges answer)
    → after ≡ links ++ record { from = from; to = to } ∷ [] → AreLinksTo edges of list sides answers i links → AreLinksTo edges of list sides answers (i + 1) after
links_more edges of list sides answers i n from to answer links after at at_answer is_from is_to is so_far =
    let link : Link = record { from = from; to = to } in
    let made : link ≡ link_of edges of list n answer = λ j. record { from = is_from j; to = is_to j } in
    subst (λ (ls : List Link). AreLinksTo edges of list sides answers (i + 1) ls) (sym is)
    (table-push (λ (i : ℕ) (link : Link). (n : ℕ) (answer : Option ℕ) → slice_get sides i ≡ Some n → slice_get answers i ≡ Some answer → link ≡ link_of edges of list n answer) links i link so_far
    (λ m other at_m at_other.
    made ∙ ap (λ k. link_of edges of list k answer) (same_Some n m (sym at ∙ at_m)) ∙ ap (λ k. link_of edges of list m k) (same_Some answer other (sym at_answer ∙ at_other))))

pub links_of : (edges : List Seg) (of : List ℕ) (list : List Cycle) (sides : List ℕ) (answers : List (Option ℕ)) (count : ℕ) (links : List Link) → count ≡ length sides
    → AreLinksTo edges of list sides answers count links → AreLinksOf edges of list sides answers links
links_of edges of list sides answers count links all so_far = record { count = so_far.count ∙ all; each = λ i n answer link at at_answer at_link. so_far.each i link at_link n answer at at_answer }

pub links_all : (edges : List Seg) → IsPlanar edges → AreDistinct edges → (of : List ℕ) (list : List Cycle) (sides : List ℕ) (vertices : List Coord) (answers : List (Option ℕ)) (links : List Link)
    → AreOverRay edges of list sides → AreVertices edges sides vertices → AreNearest edges vertices answers → AreLinksOf edges of list sides answers links → AreLinks edges of list links
links_all edges planar distinct of list sides vertices answers links over begin nearest made_of = record {
  sound = λ link (i, below, is). (
      let links_count = made_of.count in
      let (n, at) = some_at sides i (omega (arith, below, links_count)) in
      let (answer, at_answer) = some_at answers i (omega (arith, below, links_count, begin.count, nearest.count)) in
      let made : link ≡ link_of edges of list n answer = made_of.each i n answer link at at_answer (slice_get-get_or links i link below ∙ ap Some is) in
      record {
        side = n;
        place = place_below edges answer;
        below = (place_is i n answer at at_answer (place_below edges answer)).1 refl;
        from = ap (λ (l : Link). l.from) made;
        to = ap (λ (l : Link). l.to) made;
      }
      );
  down = λ n v ray. elim (over.complete n v ray) [
    | inl earlier ↦ inl earlier
    | inr (i, below, is) ↦ inr (λ m link_below. (
        let links_count = made_of.count in
        let at : slice_get sides i ≡ Some n = slice_get-get_or sides i n below ∙ ap Some is in
        let (answer, at_answer) = some_at answers i (omega (arith, below, begin.count, nearest.count)) in
        let (link, at_link) = some_at links i (omega (arith, below, links_count)) in
        let made : link ≡ link_of edges of list n answer = made_of.each i n answer link at at_answer at_link in
        let same : m ≡ place_below edges answer = (place_is i n answer at at_answer m).0 link_below in
        let onto : link ≡ record { from = node_of of list n; to = node_of of list m } = made ∙ (λ j. record { from = node_of of list n; to = node_of of list (sym same j) }) in
        (i, slice_get_within links i link at_link, get_or_from_slice_get links i link (record { from = node_of of list n; to = node_of of list m }) at_link ∙ onto)
        ))
  ];
}
  where
    place_is : (i n : ℕ) (answer : Option ℕ) → slice_get sides i ≡ Some n → slice_get answers i ≡ Some answer → (m : ℕ) → IsLinkBelow edges n m ↔ (m ≡ place_below edges answer)
    place_is i n answer at at_answer =
        let below = slice_get_within sides i n at in
        let (v, at_v) = some_at vertices i (omega (arith, below, begin.count)) in
        link_place edges planar distinct n v (begin.each i n v at at_v)
        (over.sound n (i, below, get_or_from_slice_get sides i n n at)) answer (nearest.each i v answer at_v at_answer)

-- the answers are places of the list
answer_within : (edges : List Seg) (p : Coord) (answer : Option ℕ) → IsNearestAnswer edges (at_coord p) answer → IsPlaceWithin edges answer
answer_within edges p None none = tt
answer_within edges p (Some k) found = slice_get_within edges k found.edge found.at_place

pub answers_within : (edges : List Seg) (points : List Coord) (answers : List (Option ℕ)) → AreNearest edges points answers → All (IsPlaceWithin edges) answers
answers_within edges points answers all i d below =
    let (p, at) = some_at points i (omega (arith, below, all.count)) in
    answer_within edges p (get_or answers i d) (all.each i p (get_or answers i d) at (slice_get-get_or answers i d below))
