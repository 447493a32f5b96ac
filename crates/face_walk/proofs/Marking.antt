-- One walk along next: it marks a cycle, and finds a half-edge that leaves the least vertex.
use mathlib.Core.List.{List, [], ◌∷◌}
use Rattle.std.proofs.Common.{◌≡◌, refl, sym, ◌∙◌, ap, subst, ℕ, ◌*◌, ◌<◌, ◌==◌, length, get_or, set, count_by, cond, Bool, true, false, true≢false, IsTrue, ◌⊎◌, inl, inr, arith}
use Rattle.std.proofs.lemmas.Bool.{cases_eq, eq-eqb, ne_eqb}
use Rattle.std.proofs.lemmas.Int.{ints}
use Rattle.std.proofs.lemmas.List.{get_or-set_same, get_or-set_other, length-set}
use Rattle.std.proofs.lemmas.List.Sums.{sum_by-set}
use Rattle.std.specs.Ordering.{partial_lt}
use Rattle.cov_types.specs.declared.coord.Coord.{Coord}
use Rattle.cov_types.specs.declared.seg.Seg.{Seg}
use Rattle.cov_types.specs.Coord.{is_before}
use Rattle.cov_types.specs.contracts.coord.CoordPartialOrd.TheImpl.{partial_cmp-value}
use Rattle.cov_types.proofs.Order.{is_before-irrefl, is_before-trans}
use Rattle.half_edge.proofs.Counts.{some_half_edge}
use Rattle.sector_laws.specs.Sector.{IsNextNumber, IsPlanar, AreDistinct}
use Rattle.sector_laws.proofs.Numbers.{one_next_number, next_of_one_number}
use Rattle.region_laws.specs.Linked.{IsNumberFrom}
use Rattle.face_walk.specs.Cycles.{LeadsRound, IsOnCycle, IsNoEarlier, IsBeforeMarks, HasGot, IsMarkedRound}
use Rattle.face_walk.specs.Links.{BeginsAt}

-- ---- half-edges that leave no earlier vertex

-- what `<` answers
before_is : (a b : Coord) → partial_lt partial_cmp-value.it a b ≡ is_before a b
before_is a b = grind (arith, ints)

-- from their vertices: m leaves v and k leaves w
no_earlier_by : (edges : List Seg) (m k : ℕ) (v w : Coord) → BeginsAt edges m v → BeginsAt edges k w → (IsTrue (is_before v w) → ⊥) → IsNoEarlier edges m k
no_earlier_by edges m k v w all_m all_k none x y from_m from_k before =
    none (subst (λ a. IsTrue (is_before a w)) (sym (all_m from_m.half_edge from_m.is ∙ from_m.from)) (subst (λ b. IsTrue (is_before x b)) (sym (all_k from_k.half_edge from_k.is ∙ from_k.from)) before))

-- k leaves an earlier vertex than j, and m no earlier one than j
no_earlier_past : (edges : List Seg) (m j k : ℕ) (v w : Coord) → BeginsAt edges k v → BeginsAt edges j w → IsNumberFrom edges j w → IsTrue (is_before v w) → IsNoEarlier edges m j → IsNoEarlier edges m k
no_earlier_past edges m j k v w all_k all_j at_j before rest x y from_m from_k earlier =
    rest x w from_m at_j
    (is_before-trans x v w (subst (λ b. IsTrue (is_before x b)) (sym (all_k from_k.half_edge from_k.is ∙ from_k.from)) earlier) before)

-- the first half-edge so far, or the next one where it leaves an earlier vertex
pub record IsFirstOf (edges : List Seg) (first h new : ℕ) : Type 0 where
  pub one : (new ≡ first) ⊎ (new ≡ h)
  pub past_first : (m : ℕ) → IsNoEarlier edges m first → IsNoEarlier edges m new
  pub here : IsNoEarlier edges h new

module _ (edges : List Seg) (first h : ℕ) (v w : Coord) (at_h : BeginsAt edges h v) (at_first : BeginsAt edges first w) (less : Bool) (test : less ≡ partial_lt partial_cmp-value.it v w) where
  pub first_stays : (new : ℕ) → new ≡ first → less ≡ false → IsFirstOf edges first h new
  first_stays new is not_less = record {
    one = inl is;
    past_first = λ m rest. subst (λ k. IsNoEarlier edges m k) (sym is) rest;
    here = subst (λ k. IsNoEarlier edges h k) (sym is) (no_earlier_by edges h first v w at_h at_first (λ before. true≢false (sym before ∙ sym (before_is v w) ∙ sym test ∙ not_less)));
  }

  pub first_moves : (new : ℕ) → new ≡ h → first < 2 * length edges → less ≡ true → IsFirstOf edges first h new
  first_moves new is below before = record {
    one = inr is;
    past_first = λ m rest. subst (λ k. IsNoEarlier edges m k) (sym is) (no_earlier_past edges m first h v w at_h at_first at_vertex (sym (before_is v w) ∙ sym test ∙ before) rest);
    here = subst (λ k. IsNoEarlier edges h k) (sym is) (no_earlier_by edges h h v v at_h at_h (λ itself. true≢false (sym itself ∙ is_before-irrefl v)));
  }
    where
      at_vertex : IsNumberFrom edges first w
      at_vertex = (let (g, at) = some_half_edge edges first below in record { half_edge = g; is = at; from = sym (at_first g at) })

-- ---- the walk

-- one half-edge more
leads_on : (edges : List Seg) (n : ℕ) (way : List ℕ) (m k : ℕ) → LeadsRound edges n way m → IsNextNumber edges m k → IsOnCycle edges n k
leads_on edges n [] m k same next = (k ∷ [], (subst (λ x. IsNextNumber edges x k) (sym same) next, refl))
leads_on edges n (j ∷ way) m k leads next = (let (rest, on) = leads_on edges j way m k leads.1 next in (j ∷ rest, (leads.0, on)))

-- the marked half-edge before h
pub record IsPast (edges : List Seg) (mark h : ℕ) (now : List ℕ) : Type 0 where
  pub last : ℕ
  pub next : IsNextNumber edges last h
  pub marked : get_or now last 0 ≡ mark

-- the walk has come to h: what it passed has the mark, the marks are the same along next but for the start and h, and it comes to a marked one only at the start
pub record IsWalking (edges : List Seg) (start mark h first : ℕ) (before now : List ℕ) : Type 0 where
  pub count : length now ≡ 2 * length edges
  pub within : h < 2 * length edges
  pub on_cycle : IsOnCycle edges start h
  pub come : ((h ≡ start) × ((n : ℕ) → get_or now n 0 ≡ get_or before n 0)) ⊎ IsPast edges mark h now
  pub back : (get_or now h 0 ≡ 2 * length edges → ⊥) → h ≡ start
  pub along : (n m : ℕ) → IsNextNumber edges n m → (get_or now n 0 ≡ get_or now m 0) ⊎ ((m ≡ start) ⊎ (m ≡ h))
  pub found : (first < 2 * length edges) × ((first ≡ start) ⊎ (get_or now first 0 ≡ mark))
  pub each : (n : ℕ) → (get_or now n 0 ≡ get_or before n 0) ⊎ HasGot edges start mark first before now n

pub walk_none : (edges : List Seg) (start mark : ℕ) (marks : List ℕ) → IsBeforeMarks edges start marks → IsWalking edges start mark start start marks marks
walk_none edges start mark marks h = record {
  count = h.count;
  within = h.within;
  on_cycle = ([], refl);
  come = inl (refl, λ n. refl);
  back = λ marked. refl;
  along = λ n m next. inl (h.along n m next);
  found = (h.within, inl refl);
  each = λ n. inl refl;
}

module _ (edges : List Seg) (planar : IsPlanar edges) (distinct : AreDistinct edges) (start mark : ℕ) (small : mark < 2 * length edges) (before : List ℕ) where
  -- one half-edge more gets the mark
  pub walk_more : (h next first new : ℕ) (now : List ℕ) → get_or now h 0 ≡ 2 * length edges → IsNextNumber edges h next → next < 2 * length edges → IsFirstOf edges first h new
      → IsWalking edges start mark h first before now → IsWalking edges start mark next new before (set now h mark)
  walk_more h next first new now free leads next_within better walk =
      let after : List ℕ = set now h mark in
      let long = walk.count in
      let below = walk.within in
      let is_marked : get_or after h 0 ≡ mark = get_or-set_same now h mark 0 (omega (arith, below, long)) in
      let other : (n : ℕ) → (n ≡ h → ⊥) → get_or after n 0 ≡ get_or now n 0 = λ n apart. get_or-set_other now h n mark 0 apart in
      -- the half-edge before h is marked, or h is the start
      let one_before : (n : ℕ) → IsNextNumber edges n h → (h ≡ start) ⊎ (get_or now n 0 ≡ mark) = λ n to. elim walk.come [
        | inl first ↦ inl first.0
        | inr past ↦ inr (ap (λ k. get_or now k 0) (next_of_one_number edges planar distinct n past.last h to past.next) ∙ past.marked)
      ] in
      record {
        count = length-set now h mark ∙ long;
        within = next_within;
        on_cycle = leads_on edges start walk.on_cycle.0 h next walk.on_cycle.1 leads;
        come = inr (record { last = h; next = leads; marked = is_marked });
        back = λ marked. elim (cases_eq next h) [
          | inl same ↦ elim (one_before h (subst (λ k. IsNextNumber edges h k) same leads)) [
            | inl at_start ↦ same ∙ at_start
            | inr itself ↦ absurd (omega (arith, itself, free, small))
          ]
          | inr apart ↦ elim (walk.along h next leads) [
            | inl same ↦ absurd (marked (other next apart ∙ sym same ∙ free))
            | inr end ↦ elim end [ inl at_start ↦ at_start | inr here ↦ absurd (apart here) ]
          ]
        ];
        along = λ n m to. elim (cases_eq n h) [
          | inl here ↦ inr (inr (one_next_number edges planar distinct n m next to (subst (λ k. IsNextNumber edges k next) (sym here) leads)))
          | inr apart ↦ elim (cases_eq m h) [
            | inl onto ↦ elim (one_before n (subst (λ k. IsNextNumber edges n k) onto to)) [
              | inl at_start ↦ inr (inl (onto ∙ at_start))
              | inr marked ↦ inl (other n apart ∙ marked ∙ sym is_marked ∙ ap (λ k. get_or after k 0) (sym onto))
            ]
            | inr off ↦ elim (walk.along n m to) [
              | inl same ↦ inl (other n apart ∙ same ∙ sym (other m off))
              | inr end ↦ elim end [ inl at_start ↦ inr (inl at_start) | inr here ↦ absurd (off here) ]
            ]
          ]
        ];
        found = elim better.one [
          | inl same ↦ subst (λ k. (k < 2 * length edges) × ((k ≡ start) ⊎ (get_or after k 0 ≡ mark))) (sym same) (
            walk.found.0,
            elim walk.found.1 [
              | inl at_start ↦ inl at_start
              | inr marked ↦ inr (elim (cases_eq first h) [
                | inl here ↦ absurd (let itself = ap (λ k. get_or now k 0) (sym here) ∙ marked in omega (arith, itself, free, small))
                | inr apart ↦ other first apart ∙ marked
              ])
            ],
          )
          | inr same ↦ subst (λ k. (k < 2 * length edges) × ((k ≡ start) ⊎ (get_or after k 0 ≡ mark))) (sym same) (below, inr is_marked)
        ];
        each = λ n. elim (cases_eq n h) [
          | inl here ↦ inr (subst (λ k. HasGot edges start mark new before after k) (sym here) (record {
            free = elim (walk.each h) [ inl same ↦ sym same ∙ free | inr got ↦ got.free ];
            given = is_marked;
            on_cycle = walk.on_cycle;
            no_earlier = better.here;
          }))
          | inr apart ↦ elim (walk.each n) [
            | inl same ↦ inl (other n apart ∙ same)
            | inr got ↦ inr (record {
              free = got.free;
              given = other n apart ∙ got.given;
              on_cycle = got.on_cycle;
              no_earlier = better.past_first n got.no_earlier;
            })
          ]
        ];
      }

  -- and it has come back to the start
  pub walk_end : (h first : ℕ) (now : List ℕ) → IsBeforeMarks edges start before → (get_or now h 0 ≡ 2 * length edges → ⊥) → IsWalking edges start mark h first before now
      → IsMarkedRound edges start mark first before now
  walk_end h first now begun marked walk =
      let at_start : h ≡ start = walk.back marked in
      let start_marked : get_or now start 0 ≡ mark = (elim (walk.each start) [
        | inl same ↦ absurd (marked (ap (λ k. get_or now k 0) at_start ∙ same ∙ begun.free))
        | inr got ↦ got.given
      ]) in
      let to_start : (n : ℕ) → IsNextNumber edges n start → get_or now n 0 ≡ mark = λ n to. elim walk.come [
        | inl none ↦ absurd (marked (ap (λ k. get_or now k 0) at_start ∙ none.1 start ∙ begun.free))
        | inr past ↦ ap (λ k. get_or now k 0) (next_of_one_number edges planar distinct n past.last start to (subst (λ k. IsNextNumber edges past.last k) at_start past.next)) ∙ past.marked
      ] in
      let round : (n m : ℕ) → IsNextNumber edges n m → m ≡ start → get_or now n 0 ≡ get_or now m 0 = λ n m to same.
      to_start n (subst (λ k. IsNextNumber edges n k) same to) ∙ sym start_marked ∙ ap (λ k. get_or now k 0) (sym same) in
      record {
        count = walk.count;
        along = λ n m to. elim (walk.along n m to) [
          | inl same ↦ same
          | inr end ↦ elim end [ inl same ↦ round n m to same | inr here ↦ round n m to (here ∙ at_start) ]
        ];
        own = start_marked;
        found = (walk.found.0, elim walk.found.1 [ inl same ↦ ap (λ k. get_or now k 0) same ∙ start_marked | inr is ↦ is ]);
        each = walk.each;
      }

-- ---- fewer and fewer have no mark

abbrev weight : ℕ → ℕ → ℕ
weight free x = cond (x == free) 1 0

pub fewer_free : (free h mark : ℕ) (now : List ℕ) → h < length now → get_or now h 0 ≡ free → mark < free → count_by (λ x. x == free) (set now h mark) < count_by (λ x. x == free) now
fewer_free free h mark now below is_free small =
    let moved = sum_by-set (weight free) now h mark 0 below in
    let was : weight free (get_or now h 0) ≡ 1 = ap (λ b. cond b 1 0) (eq-eqb (get_or now h 0) free is_free) in
    let is : weight free mark ≡ 0 = ap (λ b. cond b 1 0) (ne_eqb mark free (λ e. omega (arith, e, small))) in
    omega (arith, moved, was, is)
