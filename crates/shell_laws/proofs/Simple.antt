-- A way round a part passes no vertex twice: the stretch between two visits has even ends, and so the edge that follows it too.
use mathlib.Core.List.{[], ◌∷◌}
use Rattle.std.proofs.Common.{◌≡◌, refl, sym, ◌∙◌, ap, subst, ℕ, zero, suc, ◌+◌, ◌%◌, Bool, true, false, cond, List, sum_by, inl, inr, arith}
use Rattle.std.specs.Prelude.{All, AllPairs, Contains}
use Rattle.std.proofs.lemmas.List.{get_or_default}
use Rattle.std.proofs.lemmas.List.Elements.{All-nil, All-cons, All-head, All-tail}
use Rattle.std.proofs.lemmas.List.Sums.{sum_by-cons}
use Rattle.cov_types.specs.declared.coord.Coord.{Coord}
use Rattle.cov_types.specs.declared.seg.Seg.{Seg}
use Rattle.cov_types.specs.Uses.{ends_inside}
use Rattle.crossing_laws.specs.Crossing.{HaveEvenEnds}
use Rattle.crossing_laws.proofs.Lists.{contains_here, contains_there}
use Rattle.sector_laws.specs.Sector.{HalfEdge, origin, target, twin, AreDistinct, IsPlanar}
use Rattle.region_laws.proofs.Balance.{first_or_later}
use Rattle.shell_laws.specs.Part.{IsPartTest, part_boundary, IsTurn, AreTurns, IsWayRound}
use Rattle.shell_laws.proofs.Whole.{both_or_neither}

-- ---- ends of half-edges

pub by_direction : (P : HalfEdge → Type 0) → ((e : Seg) → P (record { edge = e; forwards = true })) → ((e : Seg) → P (record { edge = e; forwards = false })) → (h : HalfEdge) → P h
by_direction P up down h = by h.edge h.forwards
  where
    by : (e : Seg) (b : Bool) → P (record { edge = e; forwards = b })
    by e true = up e
    by e false = down e

pub twin_from : (h : HalfEdge) → origin (twin h) ≡ target h
twin_from = by_direction (λ h. origin (twin h) ≡ target h) (λ e. refl) (λ e. refl)

pub twin_to : (h : HalfEdge) → target (twin h) ≡ origin h
twin_to = by_direction (λ h. target (twin h) ≡ origin h) (λ e. refl) (λ e. refl)

pub meets : (boundary : List Seg) (c k : HalfEdge) → IsTurn boundary c k → target c ≡ origin k
meets boundary c k turn = sym (twin_from c) ∙ turn.leaves.from ∙ twin_to k

-- 1 where the point passes
abbrev value : (Coord → Bool) → Coord → ℕ
value inside q = cond (inside q) 1 0

both_ends : (inside : Coord → Bool) (k : HalfEdge) → ends_inside inside k.edge ≡ value inside (origin k) + value inside (target k)
both_ends inside = by_direction (λ k. ends_inside inside k.edge ≡ value inside (origin k) + value inside (target k)) (λ e. refl) (λ e. omega arith)

-- ---- stretches

distinct_cons : (e : Seg) (es : List Seg) → (Contains es e → ⊥) → AreDistinct es → AreDistinct (e ∷ es)
distinct_cons e es fresh distinct i zero d less within same = omega arith
distinct_cons e es fresh distinct zero (suc j) d less within same = fresh (j, omega arith, get_or_default es j e d (omega arith) ∙ sym same)
distinct_cons e es fresh distinct (suc i) (suc j) d less within same = distinct i j d (omega arith) (omega arith) same

module _ (edges : List Seg) (planar : IsPlanar edges) (passes : HalfEdge → Bool) (part : IsPartTest edges passes) (h : HalfEdge) where
  abbrev boundary : List Seg
  boundary = part_boundary edges passes

  -- the edges of a way from h to c
  record IsStretch (done : List Seg) (c : HalfEdge) : Type 0 where
    has : Contains done c.edge
    distinct : AreDistinct done
    among : (e : Seg) → Contains done e → Contains boundary e
    ends : (inside : Coord → Bool) → ((sum_by (ends_inside inside) done + value inside (origin h)) + value inside (target c)) % 2 ≡ 0

  starts : Contains boundary h.edge → IsStretch (h.edge ∷ []) h
  starts border = record {
    has = contains_here h.edge [];
    distinct = distinct_cons h.edge [] (λ c. (let within = c.1 in omega arith)) (λ i j d less within. absurd (omega arith));
    among = λ e c. elim (first_or_later h.edge [] e c) [ inl here ↦ subst (Contains boundary) here border | inr later ↦ absurd (let within = later.1 in omega arith) ];
    ends = λ inside. (let sum = sum_by-cons (ends_inside inside) h.edge [] in let ends = both_ends inside h in omega (arith, sum, ends));
  }

  longer : (done : List Seg) (c k : HalfEdge) → IsStretch done c → IsTurn boundary c k → Contains boundary k.edge → (Contains done k.edge → ⊥) → IsStretch (k.edge ∷ done) k
  longer done c k s turn border fresh = record {
    has = contains_here k.edge done;
    distinct = distinct_cons k.edge done fresh s.distinct;
    among = λ e has. elim (first_or_later k.edge done e has) [ inl here ↦ subst (Contains boundary) here border | inr later ↦ s.among e later ];
    ends = λ inside. (
        let sum = sum_by-cons (ends_inside inside) k.edge done in
        let both = both_ends inside k in
        let before = s.ends inside in
        let same = ap (value inside) (meets boundary c k turn) in
        omega (arith, sum, both, before, same));
  }

  -- it does not lead home, since the edge that follows it would be one of its own
  not_home : (done : List Seg) (c k : HalfEdge) → IsStretch done c → passes c ≡ true → passes k ≡ true → IsTurn boundary c k → (Contains done k.edge → ⊥) → origin h ≡ origin k → ⊥
  not_home done c k s pass_c pass_k turn fresh home = fresh ((both_or_neither edges planar passes part c k pass_c pass_k turn done s.distinct s.among even).0 s.has)
    where
      even : HaveEvenEnds done
      even inside =
          let before = s.ends inside in
          let same = ap (value inside) (meets boundary c k turn) in
          let back = ap (value inside) home in
          omega (arith, before, same, back)

  goes : (done : List Seg) (c : HalfEdge) (rest : List HalfEdge) → IsStretch done c → passes c ≡ true → AreTurns boundary (c ∷ rest) → All (λ k. Contains boundary k.edge) rest → All (λ k. passes k ≡ true) rest
      → ((k : HalfEdge) → Contains rest k → Contains done k.edge → ⊥) → AllPairs (λ k m. ¬ (k.edge ≡ m.edge)) rest → All (λ k. ¬ (origin h ≡ origin k)) rest
  goes done c [] s pass turns border inside fresh once = All-nil (λ k. ¬ (origin h ≡ origin k))
  goes done c (k ∷ rest) s pass turns border inside fresh once =
      let pass_k = All-head (λ m. passes m ≡ true) k rest inside in
      let border_k = All-head (λ m. Contains boundary m.edge) k rest border in
      let new = fresh k (contains_here k rest) in
      All-cons (λ m. ¬ (origin h ≡ origin m)) k rest (not_home done c k s pass pass_k turns.0 new)
      (goes (k.edge ∷ done) k rest (longer done c k s turns.0 border_k new) pass_k turns.1 (All-tail (λ m. Contains boundary m.edge) k rest border) (All-tail (λ m. passes m ≡ true) k rest inside)
      (λ m has in_done. elim (first_or_later k.edge done m.edge in_done) [
        | inl here ↦ not_again m has here
        | inr later ↦ fresh m (contains_there k m rest has) later
      ])
      (λ i j d less within. once (suc i) (suc j) d (omega arith) (omega arith)))
    where
      not_again : (m : HalfEdge) → Contains rest m → k.edge ≡ m.edge → ⊥
      not_again m (i, within, is) same = once 0 (suc i) m (omega arith) (omega arith) (same ∙ sym (ap (λ (x : HalfEdge). x.edge) is))

  pub first_alone : (rest : List HalfEdge) → IsWayRound edges passes (h ∷ rest) → All (λ k. ¬ (origin h ≡ origin k)) rest
  first_alone rest way =
      goes (h.edge ∷ []) h rest (starts (All-head (λ m. Contains boundary m.edge) h rest way.border)) (All-head (λ m. passes m ≡ true) h rest way.inside) way.turns
      (All-tail (λ m. Contains boundary m.edge) h rest way.border) (All-tail (λ m. passes m ≡ true) h rest way.inside)
      (λ m has in_done. elim (first_or_later h.edge [] m.edge in_done) [
        | inl here ↦ not_again m has here
        | inr later ↦ (let within = later.1 in omega arith)
      ])
      (λ i j d less within. way.once (suc i) (suc j) d (omega arith) (omega arith))
    where
      not_again : (m : HalfEdge) → Contains rest m → h.edge ≡ m.edge → ⊥
      not_again m (i, within, is) same = way.once 0 (suc i) m (omega arith) (omega arith) (same ∙ sym (ap (λ (x : HalfEdge). x.edge) is))

module _ (edges : List Seg) (planar : IsPlanar edges) (passes : HalfEdge → Bool) (part : IsPartTest edges passes) where
  rest_way : (h : HalfEdge) (rest : List HalfEdge) → IsWayRound edges passes (h ∷ rest) → IsWayRound edges passes rest
  rest_way h rest way = record {
    border = All-tail (λ m. Contains (part_boundary edges passes) m.edge) h rest way.border;
    inside = All-tail (λ m. passes m ≡ true) h rest way.inside;
    turns = turns_of rest way.turns;
    once = λ i j d less within. way.once (suc i) (suc j) d (omega arith) (omega arith);
  }
    where
      turns_of : (ks : List HalfEdge) → AreTurns (part_boundary edges passes) (h ∷ ks) → AreTurns (part_boundary edges passes) ks
      turns_of [] turns = tt
      turns_of (k ∷ ks) turns = turns.1

  apart : (way : List HalfEdge) → IsWayRound edges passes way → AllPairs (λ h g. ¬ (origin h ≡ origin g)) way
  apart [] round i j d less within = absurd (omega arith)
  apart (h ∷ rest) round i zero d less within = absurd (omega arith)
  apart (h ∷ rest) round zero (suc j) d less within = first_alone edges planar passes part h rest round j d (omega arith)
  apart (h ∷ rest) round (suc i) (suc j) d less within = apart rest (rest_way h rest round) i j d (omega arith) (omega arith)

pub no_vertex_twice : (edges : List Seg) → IsPlanar edges → (passes : HalfEdge → Bool) → IsPartTest edges passes → (way : List HalfEdge) → IsWayRound edges passes way → AllPairs (λ h g. ¬ (origin h ≡ origin g)) way
no_vertex_twice edges planar passes part way round = apart edges planar passes part way round
