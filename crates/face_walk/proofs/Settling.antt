-- The nearest edge below a point so far, and with one more edge.
use mathlib.Core.List.{List, [], ◌∷◌, ◌++◌}
use Rattle.std.proofs.Common.{◌≡◌, sym, ◌∙◌, ap, subst, ℕ, ◌+◌, ◌<◌, length, false, true≢false, Contains, Option, Some, None, slice_get, IsTrue, ◌⊎◌, inl, inr}
use Rattle.std.proofs.lemmas.Option.{same_Some, slice_get_within, slice_get-get_or, get_or_from_slice_get}
use Rattle.cov_types.specs.declared.coord.Coord.{Coord}
use Rattle.cov_types.specs.declared.seg.Seg.{Seg}
use Rattle.half_edge.proofs.Tables.{IsTable, table-none, table-push}
use Rattle.plane.specs.Point.{Point, at_coord}
use Rattle.sector_laws.specs.Sector.{IsPlanar}
use Rattle.region_laws.specs.Below.{is_under, IsBelow, IsNearer}
use Rattle.face_walk.specs.Nearest.{IsNearestAnswer, AreNearest, IsCandidate, IsSettled}
use Rattle.face_walk.proofs.Nearer.{nearer-total, nearer-trans}

pub contains_at : (edges : List Seg) (i : ℕ) (e : Seg) → slice_get edges i ≡ Some e → Contains edges e
contains_at edges i e at = (i, slice_get_within edges i e at, get_or_from_slice_get edges i e e at)

place_of : (edges : List Seg) (e : Seg) (c : Contains edges e) → slice_get edges c.0 ≡ Some e
place_of edges e (i, below, is) = slice_get-get_or edges i e below ∙ ap Some is

pub one_at : (edges : List Seg) (k : ℕ) (e f : Seg) → slice_get edges k ≡ Some e → slice_get edges k ≡ Some f → e ≡ f
one_at edges k e f at_e at_f = same_Some e f (sym at_e ∙ at_f)

module _ (edges : List Seg) (p : Point) (k : ℕ) (e : Seg) (at_k : slice_get edges k ≡ Some e) where
  -- an edge that is not under p is settled by any answer
  pub settled_not_under : is_under e p ≡ false → (nearest : Option ℕ) → IsSettled edges p nearest k
  settled_not_under not_under nearest f at under = absurd (true≢false (sym under ∙ ap (λ g. is_under g p) (sym (one_at edges k e f at_k at)) ∙ not_under))

  -- and one by itself
  pub settled_itself : IsSettled edges p (Some k) k
  settled_itself f at under = (e, (at_k, inl (one_at edges k e f at_k at)))

  -- the first one under p
  pub kept_first : (i : ℕ) → IsSettled edges p None i → IsSettled edges p (Some k) i
  kept_first i none f at under = absurd (none f at under)

  module _ (place : ℕ) (d : Seg) (at_place : slice_get edges place ≡ Some d) where
    -- what was nearest is nearer
    pub settled_farther : IsNearer p d e → IsSettled edges p (Some place) k
    settled_farther nearer f at under = (d, (at_place, inr (subst (λ g. IsNearer p d g) (one_at edges k e f at_k at) nearer)))

    -- what was nearest is not nearer, so this one is
    pub kept_nearer : IsPlanar edges → IsTrue (is_under d p) → IsTrue (is_under e p) → (IsNearer p d e → ⊥) → (i : ℕ) → IsSettled edges p (Some place) i → IsSettled edges p (Some k) i
    kept_nearer planar under_d under_e not_nearer i settled f at under =
        let (g, (at_g, ahead)) = settled f at under in
        let from_d : (d ≡ f) ⊎ IsNearer p d f = subst (λ x. (x ≡ f) ⊎ IsNearer p x f) (one_at edges place g d at_g at_place) ahead in
        let below_d : IsBelow edges p d = record { among = contains_at edges place d at_place; under = under_d } in
        let below_e : IsBelow edges p e = record { among = contains_at edges k e at_k; under = under_e } in
        let below_f : IsBelow edges p f = record { among = contains_at edges i f at; under = under } in (
          e,
          (
            at_k,
            elim (nearer-total edges planar p d e below_d below_e) as (λ _. (e ≡ f) ⊎ IsNearer p e f) [
              | inl same ↦ subst (λ x. (x ≡ f) ⊎ IsNearer p x f) same from_d
              | inr apart ↦ elim apart as (λ _. (e ≡ f) ⊎ IsNearer p e f) [
                | inl nearer ↦ absurd (not_nearer nearer)
                | inr back ↦ elim from_d as (λ _. (e ≡ f) ⊎ IsNearer p e f) [
                  | inl same ↦ inr (subst (λ x. IsNearer p e x) same back)
                  | inr on ↦ nearer-trans edges planar p e d f below_e below_d below_f back on
                ]
              ]
            ],
          ),
        )

-- where all are settled, the answer is the nearest
pub nearest_of_all : (edges : List Seg) (p : Point) (nearest : Option ℕ) → IsCandidate edges p nearest → ((k : ℕ) → k < length edges → IsSettled edges p nearest k) → IsNearestAnswer edges p nearest
nearest_of_all edges p None candidate settled = λ e below. settled below.among.0 below.among.1 e (place_of edges e below.among) below.under
nearest_of_all edges p (Some place) (e, (at, under)) settled = record {
  edge = e;
  at_place = at;
  nearest = record {
    below = record { among = contains_at edges place e at; under = under };
    nearest = λ f below.
        let (g, (at_g, ahead)) = settled below.among.0 below.among.1 f (place_of edges f below.among) below.under in
        subst (λ x. (x ≡ f) ⊎ IsNearer p x f) (one_at edges place g e at_g at) ahead;
  };
}

-- ---- the answers for the first points

abbrev pub AreNearestTo : List Seg → List Coord → ℕ → List (Option ℕ) → Type 0
AreNearestTo edges points count answers = IsTable (λ (i : ℕ) (answer : Option ℕ). (p : Coord) → slice_get points i ≡ Some p → IsNearestAnswer edges (at_coord p) answer) answers count

pub nearest_none : (edges : List Seg) (points : List Coord) (answers : List (Option ℕ)) → answers ≡ [] → AreNearestTo edges points 0 answers
nearest_none edges points answers is = subst (λ (xs : List (Option ℕ)). AreNearestTo edges points 0 xs) (sym is)
    (table-none (λ (i : ℕ) (answer : Option ℕ). (p : Coord) → slice_get points i ≡ Some p → IsNearestAnswer edges (at_coord p) answer))

pub nearest_more : (edges : List Seg) (points : List Coord) (i : ℕ) (p : Coord) (answer : Option ℕ) (answers after : List (Option ℕ)) → slice_get points i ≡ Some p
    → IsNearestAnswer edges (at_coord p) answer → after ≡ answers ++ answer ∷ [] → AreNearestTo edges points i answers → AreNearestTo edges points (i + 1) after
nearest_more edges points i p answer answers after at nearest is so_far = subst (λ (xs : List (Option ℕ)). AreNearestTo edges points (i + 1) xs) (sym is)
    (table-push (λ (i : ℕ) (answer : Option ℕ). (p : Coord) → slice_get points i ≡ Some p → IsNearestAnswer edges (at_coord p) answer) answers i answer so_far
    (λ q at_q. subst (λ (c : Coord). IsNearestAnswer edges (at_coord c) answer) (same_Some p q (sym at ∙ at_q)) nearest))

pub nearest_all : (edges : List Seg) (points : List Coord) (count : ℕ) (answers : List (Option ℕ)) → count ≡ length points → AreNearestTo edges points count answers → AreNearest edges points answers
nearest_all edges points count answers all so_far = record { count = so_far.count ∙ all; each = λ i p answer at at_answer. so_far.each i answer at_answer p at }
