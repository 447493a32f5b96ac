-- All boundary cycles, walk by walk.
use mathlib.Core.List.{List, [], ◌∷◌, ◌++◌}
use Rattle.std.proofs.Common.{◌≡◌, refl, sym, ◌∙◌, ap, subst, ℕ, ◌+◌, ◌*◌, ◌<◌, ◌≤◌, length, get_or, replicate, AllPairs, Some, slice_get, ◌⊎◌, inl, inr, arith}
use Rattle.std.proofs.lemmas.Bool.{cases_eq, cases_lt}
use Rattle.std.proofs.lemmas.List.{length-append, length-replicate, get_or-replicate, get_or_read}
use Rattle.std.proofs.lemmas.List.Quantifiers.{all_pairs_push}
use Rattle.std.proofs.lemmas.Option.{none-some, slice_get_within, slice_get-get_or, slice_get_read}
use Rattle.cov_types.specs.declared.seg.Seg.{Seg}
use Rattle.half_edge.proofs.Counts.{number_within}
use Rattle.half_edge.proofs.Tables.{last_or_before}
use Rattle.face_walk.specs.Cycles.{AreAlong, IsBeforeMarks, IsMarkedRound, IsCycleOf, IsCycleAt, AreCycles}
use Rattle.face_walk.specs.declared.cycle.Cycle.{Cycle}

-- the cycles of the first half-edges, and no others, are marked
pub record AreCyclesTo (edges : List Seg) (count : ℕ) (of : List ℕ) (list : List Cycle) : Type 0 where
  pub long : length of ≡ 2 * length edges
  pub along : AreAlong edges of
  pub few : length list ≤ count
  pub marked : (n : ℕ) → n < count → n < 2 * length edges → get_or of n 0 < length list
  pub cases : (n : ℕ) → n < 2 * length edges → (get_or of n 0 < length list) ⊎ (get_or of n 0 ≡ 2 * length edges)
  pub each : (n : ℕ) (c : Cycle) → n < 2 * length edges → slice_get list (get_or of n 0) ≡ Some c → IsCycleOf edges n c
  pub ends : (k : ℕ) (c : Cycle) → slice_get list k ≡ Some c → IsCycleAt edges of k c × (c.least < count)
  pub ascending : AllPairs (λ c d. c.least < d.least) list

pub cycles_none : (edges : List Seg) (count free : ℕ) (of : List ℕ) (list : List Cycle) → count ≡ 2 * length edges → free ≡ 2 * length edges → of ≡ replicate count free → list ≡ []
    → AreCyclesTo edges 0 of list
cycles_none edges count free of list is_count is_free all is = subst (λ (cs : List Cycle). AreCyclesTo edges 0 of cs) (sym is) (record {
  long = ap (λ (xs : List ℕ). length xs) all ∙ length-replicate count free ∙ is_count;
  along = λ n m next. at n (number_within edges n next.from next.from_is) ∙ sym (at m (number_within edges m next.to next.to_is));
  few = omega arith;
  marked = λ n h. absurd (omega (arith, h));
  cases = λ n h. inr (at n h);
  each = λ n c h none. absurd (none-some c none);
  ends = λ k c none. absurd (none-some c none);
  ascending = λ i j d lt h. absurd (omega (arith, h));
})
  where
    at : (n : ℕ) → n < 2 * length edges → get_or of n 0 ≡ 2 * length edges
    at n h = ap (λ (xs : List ℕ). get_or xs n 0) all ∙ get_or-replicate count n free 0 (omega (arith, h, is_count)) ∙ is_free

module _ (edges : List Seg) (h : ℕ) (of : List ℕ) (list : List Cycle) (below : h < 2 * length edges) (so_far : AreCyclesTo edges h of list) where
  pub before_marks : get_or of h 0 ≡ 2 * length edges → IsBeforeMarks edges h of
  before_marks free = record { count = so_far.long; along = so_far.along; within = below; free = free }

  -- the half-edge h is on a cycle that is marked
  pub cycles_same : (get_or of h 0 ≡ 2 * length edges → ⊥) → AreCyclesTo edges (h + 1) of list
  cycles_same marked = record {
    long = so_far.long;
    along = so_far.along;
    few = (let few = so_far.few in omega (arith, few));
    marked = λ n lt within. elim (so_far.cases n within) [
      | inl is ↦ is
      | inr free ↦ elim (cases_eq n h) [
        | inl here ↦ absurd (marked (ap (λ k. get_or of k 0) (sym here) ∙ free))
        | inr apart ↦ so_far.marked n (omega (arith, lt, apart)) within
      ]
    ];
    cases = so_far.cases;
    each = so_far.each;
    ends = λ k c at. (let (ends, lt) = so_far.ends k c at in (ends, omega (arith, lt)));
    ascending = so_far.ascending;
  }

  -- its cycle is marked now
  module _ (first : ℕ) (after : List ℕ) (got : IsMarkedRound edges h (length list) first of after) where
    abbrev one : Cycle
    one = record { least = h; first = first }

    few_more : length list + 1 ≤ h + 1
    few_more = let few = so_far.few in omega (arith, few)

    -- a mark below the length stays
    stays : (n : ℕ) → get_or of n 0 < length list → get_or after n 0 ≡ get_or of n 0
    stays n lt = let few = so_far.few in elim (got.each n) [
      | inl same ↦ same
      | inr new ↦ absurd (let free = new.free in omega (arith, free, lt, few, below))
    ]

    longer : length (list ++ one ∷ []) ≡ length list + 1
    longer = length-append list (one ∷ [])

    -- what stands at the mark of a half-edge
    each_more : (n : ℕ) (c : Cycle) → n < 2 * length edges → slice_get (list ++ one ∷ []) (get_or after n 0) ≡ Some c → IsCycleOf edges n c
    each_more n c within at =
        let few = so_far.few in
        let lt = slice_get_within (list ++ one ∷ []) (get_or after n 0) c at in
        elim (got.each n) [
          | inl same ↦ elim (last_or_before list one (get_or after n 0) c at) [
            | inl before ↦ so_far.each n c within (ap (λ k. slice_get list k) (sym same) ∙ before)
            | inr last ↦ absurd (elim (so_far.cases n within) [
              | inl marked ↦ (let place = last.0 in omega (arith, place, same, marked))
              | inr free ↦ (let place = last.0 in omega (arith, place, same, free, few, below))
            ])
          ]
          | inr new ↦ elim (last_or_before list one (get_or after n 0) c at) [
            | inl before ↦ absurd (let short = slice_get_within list (get_or after n 0) c before in let given = new.given in omega (arith, short, given))
            | inr last ↦ subst (λ (x : Cycle). IsCycleOf edges n x) last.1 (record {
              on_cycle = new.on_cycle;
              least = elim (cases_lt n h) [
                | inl early ↦ absurd (let marked = so_far.marked n early within in let free = new.free in omega (arith, marked, free, few, below))
                | inr late ↦ late
              ];
              no_earlier = new.no_earlier;
            })
          ]
        ]

    ends_more : (k : ℕ) (c : Cycle) → slice_get (list ++ one ∷ []) k ≡ Some c → IsCycleAt edges after k c × (c.least < h + 1)
    ends_more k c at = elim (last_or_before list one k c at) [
      | inl before ↦ (
          let (old, lt) = so_far.ends k c before in
          let short = slice_get_within list k c before in
          let least = old.least in
          let found = old.first in (
            record {
              least_within = old.least_within;
              least = stays c.least (omega (arith, least, short)) ∙ old.least;
              first_within = old.first_within;
              first = stays c.first (omega (arith, found, short)) ∙ old.first;
            },
            omega (arith, lt),
          )
          )
      | inr last ↦ subst (λ (x : Cycle). IsCycleAt edges after k x × (x.least < h + 1)) last.1 (
        record { least_within = below; least = got.own ∙ sym last.0; first_within = got.found.0; first = got.found.1 ∙ sym last.0 },
        omega arith,
      )
    ]

    pub cycles_more : AreCyclesTo edges (h + 1) after (list ++ record { least = h; first = first } ∷ [])
    cycles_more = record {
      long = got.count;
      along = got.along;
      few = (let few = few_more in omega (arith, longer, few));
      marked = λ n lt within. (let few = so_far.few in elim (got.each n) [
        | inl same ↦ elim (cases_eq n h) [
          | inl here ↦ (let own = got.own in omega (arith, own, longer, ap (λ k. get_or after k 0) here))
          | inr apart ↦ (let was = so_far.marked n (omega (arith, lt, apart)) within in omega (arith, same, was, longer))
        ]
        | inr new ↦ (let given = new.given in omega (arith, given, longer))
      ]);
      cases = λ n within. elim (got.each n) [
        | inl same ↦ elim (so_far.cases n within) [
          | inl lt ↦ inl (omega (arith, same, lt, longer))
          | inr free ↦ inr (same ∙ free)
        ]
        | inr new ↦ (let given = new.given in inl (omega (arith, given, longer)))
      ];
      each = each_more;
      ends = ends_more;
      ascending = all_pairs_push (λ (c d : Cycle). c.least < d.least) list one so_far.ascending (λ k d lt. (so_far.ends k (get_or list k d) (slice_get-get_or list k d lt)).1);
    }

pub cycles_all : (edges : List Seg) (count : ℕ) (of : List ℕ) (list : List Cycle) → 2 * length edges ≤ count → AreCyclesTo edges count of list → AreCycles edges of list
cycles_all edges count of list all so_far = record {
  count = so_far.long;
  along = so_far.along;
  within = λ n h. so_far.marked n (omega (arith, h, all)) h;
  each = so_far.each;
  ends = λ k c at. (so_far.ends k c at).0;
  ascending = so_far.ascending;
}

-- the cycle of a half-edge, as the code reads it
pub cycle_read : (edges : List Seg) (of : List ℕ) (list : List Cycle) → AreCycles edges of list → (n place : ℕ) (c : Cycle) → n < 2 * length edges → place ≡ get_or of n place → c ≡ get_or list place c
    → slice_get list (get_or of n 0) ≡ Some c
cycle_read edges of list cycles n place c below at_n at_place =
    let count = cycles.count in
    let here : place ≡ get_or of n 0 = get_or_read of n place (omega (arith, below, count)) at_n 0 in
    let within = cycles.within n below in
    slice_get_read list (length list) (get_or of n 0) c refl within (at_place ∙ ap (λ k. get_or list k c) here)
