-- How many ends are at a vertex, by the places at which they stand together.
use mathlib.Core.List.{[], ◌∷◌}
use Rattle.std.proofs.Common.{◌≡◌, ◌≢◌, ◌⊎◌, refl, sym, ◌∙◌, ap, subst, ℕ, zero, suc, ◌+◌, ◌-◌, ◌<◌, ◌≤◌, ◌&&◌, not, Bool, true, false, cond, List, length, get_or, Option, Some, None, inl, inr, arith}
use Rattle.std.specs.Prelude.{slice_get}
use Rattle.std.proofs.lemmas.Bool.{cases_order, cases_lt, true≢false, false≢true, and_parts}
use Rattle.std.proofs.lemmas.List.Sums.{sum_by-cons}
use Rattle.std.proofs.lemmas.Option.{slice_get_within, slice_get-get_or, get_or_from_slice_get}
use Rattle.cov_types.specs.declared.coord.Coord.{Coord}
use Rattle.cov_types.specs.Coord.{is_before, is_same_coord}
use Rattle.cov_types.proofs.Equal.{Decides-same_coords}
use Rattle.cov_types.proofs.Order.{same_from_neither}
use Rattle.line_walk.specs.declared.edge_end.EdgeEnd.{EdgeEnd}
use Rattle.line_walk.specs.Ends.{AreEndsGrouped, is_there, is_end_at, is_end_before, ends_at_vertex, IsPairAt, IsOtherEnd, IsOtherThere}

counted : (d : EdgeEnd) (ds : List EdgeEnd) (v : Coord) → ends_at_vertex (d ∷ ds) v ≡ cond (is_same_coord d.vertex v) 1 0 + ends_at_vertex ds v
counted d ds v = sum_by-cons (λ e. cond (is_same_coord e.vertex v) 1 0) d ds

one_more : (d : EdgeEnd) (ds : List EdgeEnd) (v : Coord) → is_same_coord d.vertex v ≡ true → ends_at_vertex (d ∷ ds) v ≡ suc (ends_at_vertex ds v)
one_more d ds v is = let one : cond {A = ℕ} (is_same_coord d.vertex v) 1 0 ≡ 1 = ap (λ b. cond {A = ℕ} b 1 0) is in omega (arith, counted d ds v, one)

no_more : (d : EdgeEnd) (ds : List EdgeEnd) (v : Coord) → is_same_coord d.vertex v ≡ false → ends_at_vertex (d ∷ ds) v ≡ ends_at_vertex ds v
no_more d ds v is = let none : cond {A = ℕ} (is_same_coord d.vertex v) 1 0 ≡ 0 = ap (λ b. cond {A = ℕ} b 1 0) is in omega (arith, counted d ds v, none)

-- the ends at the vertex are those at the places from a to before b
pub record IsRun (ends : List EdgeEnd) (v : Coord) (a b : ℕ) : Type 0 where
  pub before : (i : ℕ) → i < a → is_end_at ends v i ≡ false
  pub within : (i : ℕ) → a ≤ i → i < b → is_end_at ends v i ≡ true
  pub after : (i : ℕ) → b ≤ i → is_end_at ends v i ≡ false

none_there : (ends : List EdgeEnd) (v : Coord) → ((i : ℕ) → is_end_at ends v i ≡ false) → ends_at_vertex ends v ≡ 0
none_there [] v h = refl
none_there (d ∷ ds) v h = no_more d ds v (h 0) ∙ none_there ds v (λ i. h (suc i))

pub run_count : (ends : List EdgeEnd) (v : Coord) (a b : ℕ) → a ≤ b → IsRun ends v a b → ends_at_vertex ends v + a ≡ b
run_count [] v a b le h = elim (cases_lt a b) [
  | inl less ↦ absurd (false≢true (h.within a (omega arith) less))
  | inr same ↦ omega arith
]
run_count (d ∷ ds) v zero zero le h = (let z = none_there (d ∷ ds) v (λ i. h.after i (omega arith)) in omega (arith, z))
run_count (d ∷ ds) v zero (suc b) le h =
    let rest = run_count ds v zero b (omega arith) (record { before = λ i less. absurd (omega arith); within = λ i from less. h.within (suc i) (omega arith) (omega arith); after = λ i from. h.after (suc i) (omega arith) }) in
    let first = one_more d ds v (h.within 0 (omega arith) (omega arith)) in
    omega (arith, rest, first)
run_count (d ∷ ds) v (suc a) zero le h = absurd (omega arith)
run_count (d ∷ ds) v (suc a) (suc b) le h =
    let rest = run_count ds v a b (omega arith) (record { before = λ i less. h.before (suc i) (omega arith); within = λ i from less. h.within (suc i) (omega arith) (omega arith); after = λ i from. h.after (suc i) (omega arith) }) in
    let first = no_more d ds v (h.before 0 (omega arith)) in
    omega (arith, rest, first)

pub least_count : (ends : List EdgeEnd) (v : Coord) (a b : ℕ) → ((i : ℕ) → a ≤ i → i < b → is_end_at ends v i ≡ true) → b ≤ ends_at_vertex ends v + a
least_count [] v a b h = elim (cases_lt a b) [
  | inl less ↦ absurd (false≢true (h a (omega arith) less))
  | inr same ↦ omega arith
]
least_count (d ∷ ds) v a zero h = omega arith
least_count (d ∷ ds) v zero (suc b) h =
    let rest = least_count ds v zero b (λ i from less. h (suc i) (omega arith) (omega arith)) in
    let first = one_more d ds v (h 0 (omega arith) (omega arith)) in
    omega (arith, rest, first)
least_count (d ∷ ds) v (suc a) (suc b) h =
    let rest = least_count ds v a b (λ i from less. h (suc i) (omega arith) (omega arith)) in
    omega (arith, rest, counted d ds v)

-- ---- ends that stand together

pub record IsEndThere (ends : List EdgeEnd) (v : Coord) (i : ℕ) : Type 0 where
  pub end : EdgeEnd
  pub at : slice_get ends i ≡ Some end
  pub is : end.vertex ≡ v

there_by : (o : Option EdgeEnd) (v : Coord) → is_there v o ≡ true → (d : EdgeEnd) × ((o ≡ Some d) × (d.vertex ≡ v))
there_by None v h = absurd (false≢true h)
there_by (Some d) v h = (d, (refl, (Decides-same_coords d.vertex v).0 h))

pub end_there : (ends : List EdgeEnd) (v : Coord) (i : ℕ) → is_end_at ends v i ≡ true → IsEndThere ends v i
end_there ends v i h = let it = there_by (slice_get ends i) v h in record { end = it.0; at = it.1.0; is = it.1.1 }

pub is_there_at : (ends : List EdgeEnd) (v : Coord) (i : ℕ) (d : EdgeEnd) → slice_get ends i ≡ Some d → d.vertex ≡ v → is_end_at ends v i ≡ true
is_there_at ends v i d at is = ap (is_there v) at ∙ (Decides-same_coords d.vertex v).1 is

or_not : (b : Bool) → (b ≡ true) ⊎ (b ≡ false)
or_not true = inl refl
or_not false = inr refl

module _ (ends : List EdgeEnd) (together : AreEndsGrouped ends) (v : Coord) where
  not_after : (i j : ℕ) (d e : EdgeEnd) → i < j → slice_get ends i ≡ Some d → slice_get ends j ≡ Some e → is_before e.vertex d.vertex ≡ false
  not_after i j d e less at_d at_e =
      let h = together i j d less (slice_get_within ends j e at_e) in
      subst (λ (y : EdgeEnd). is_before y.vertex d.vertex ≡ false) (get_or_from_slice_get ends j e d at_e) (subst (λ (x : EdgeEnd). is_before (get_or ends j d).vertex x.vertex ≡ false) (get_or_from_slice_get ends i d d at_d) h)

  pub between : (i j k : ℕ) → i < j → j < k → is_end_at ends v i ≡ true → is_end_at ends v k ≡ true → is_end_at ends v j ≡ true
  between i j k ij jk hi hk =
      let d = end_there ends v i hi in
      let f = end_there ends v k hk in
      let inside = slice_get_within ends k f.end f.at in
      let at = slice_get-get_or ends j d.end (omega arith) in
      let e = get_or ends j d.end in
      let low : is_before e.vertex v ≡ false = subst (λ p. is_before e.vertex p ≡ false) d.is (not_after i j d.end e ij d.at at) in
      let high : is_before v e.vertex ≡ false = subst (λ p. is_before p e.vertex ≡ false) f.is (not_after j k e f.end jk at f.at) in
      is_there_at ends v j e at (same_from_neither e.vertex v low high)

  none_after : (i : ℕ) → is_end_at ends v i ≡ true → is_end_at ends v (suc i) ≡ false → (k : ℕ) → suc i ≤ k → is_end_at ends v k ≡ false
  none_after i here next k from = elim (or_not (is_end_at ends v k)) [
    | inr not_it ↦ not_it
    | inl it ↦ elim (cases_order (suc i) k) [
      | inl same ↦ ap (is_end_at ends v) (sym same) ∙ next
      | inr rest ↦ elim rest [
        | inl less ↦ absurd (true≢false (sym (between i (suc i) k (omega arith) less here it) ∙ next))
        | inr more ↦ absurd (omega arith)
      ]
    ]
  ]

  none_before : (i : ℕ) → is_end_at ends v (suc i) ≡ true → is_end_at ends v i ≡ false → (k : ℕ) → k ≤ i → is_end_at ends v k ≡ false
  none_before i here last k to = elim (or_not (is_end_at ends v k)) [
    | inr not_it ↦ not_it
    | inl it ↦ elim (cases_order k i) [
      | inl same ↦ ap (is_end_at ends v) same ∙ last
      | inr rest ↦ elim rest [
        | inl less ↦ absurd (true≢false (sym (between k i (suc i) less (omega arith) it here) ∙ last))
        | inr more ↦ absurd (omega arith)
      ]
    ]
  ]

  -- the run from a to before suc b, by its last place b and what stands around it
  run_at : (a b : ℕ) → a ≤ b → is_end_before ends v a ≡ false → ((i : ℕ) → a ≤ i → i < suc b → is_end_at ends v i ≡ true) → is_end_at ends v (suc b) ≡ false → IsRun ends v a (suc b)
  run_at zero b le first all next = record { before = λ i less. absurd (omega arith); within = all; after = none_after b (all b le (omega arith)) next }
  run_at (suc a) b le first all next = record {
    before = λ i less. none_before a (all (suc a) (omega arith) (omega arith)) first i (omega arith);
    within = all;
    after = none_after b (all b le (omega arith)) next;
  }

  -- ---- pairs

  abbrev pub is_pair : ℕ → Bool
  is_pair i = is_end_at ends v (i + 1) && not (is_end_at ends v (i + 2)) && not (is_end_before ends v i)

  pub record IsPair (i : ℕ) : Type 0 where
    pub next : is_end_at ends v (suc i) ≡ true
    pub after : is_end_at ends v (suc (suc i)) ≡ false
    pub before : is_end_before ends v i ≡ false

  not_false : (b : Bool) → not b ≡ true → b ≡ false
  not_false true h = absurd (false≢true h)
  not_false false h = refl

  pub pair_is : (i : ℕ) → is_pair i ≡ true → IsPair i
  pair_is i h =
      let outer = and_parts _ _ h in
      let inner = and_parts _ _ outer.0 in
      let one : suc i ≡ i + 1 = omega arith in
      let two : suc (suc i) ≡ i + 2 = omega arith in
      record { next = ap (is_end_at ends v) one ∙ inner.0; after = ap (is_end_at ends v) two ∙ not_false _ inner.1; before = not_false _ outer.1 }

  both_places : (i : ℕ) → is_end_at ends v i ≡ true → is_end_at ends v (suc i) ≡ true → (k : ℕ) → i ≤ k → k < suc (suc i) → is_end_at ends v k ≡ true
  both_places i here next k from less = elim (cases_order k i) [
    | inl same ↦ ap (is_end_at ends v) same ∙ here
    | inr rest ↦ elim rest [
      | inl low ↦ absurd (omega arith)
      | inr high ↦ (let z : k ≡ suc i = omega arith in ap (is_end_at ends v) z ∙ next)
    ]
  ]

  pub pair_count : (i : ℕ) → is_end_at ends v i ≡ true → IsPair i → ends_at_vertex ends v ≡ 2
  pair_count i here p = let c = run_count ends v i (suc (suc i)) (omega arith) (run_at i (suc i) (omega arith) p.before (both_places i here p.next) p.after) in omega (arith, c)

  three_places : (i : ℕ) → is_end_at ends v i ≡ true → is_end_at ends v (suc i) ≡ true → is_end_at ends v (suc (suc i)) ≡ true → 3 ≤ ends_at_vertex ends v
  three_places i here next last =
      let c = least_count ends v i (suc (suc (suc i))) (λ k from less. elim (cases_order k (suc (suc i))) [
        | inl same ↦ ap (is_end_at ends v) same ∙ last
        | inr rest ↦ elim rest [
          | inl low ↦ both_places i here next k from low
          | inr high ↦ absurd (omega arith)
        ]
      ]) in
      omega (arith, c)

  one_place : (i : ℕ) → is_end_at ends v i ≡ true → is_end_at ends v (suc i) ≡ false → is_end_before ends v i ≡ false → ends_at_vertex ends v ≡ 1
  one_place i here next before =
      let c = run_count ends v i (suc i) (omega arith) (run_at i i (omega arith) before (λ k from less. (let z : k ≡ i = omega arith in ap (is_end_at ends v) z ∙ here)) next) in
      omega (arith, c)

  -- the other end of a pair
  other_named : (i j : ℕ) (d : EdgeEnd) → slice_get ends j ≡ Some d → d.vertex ≡ v → j ≢ i → ends_at_vertex ends v ≡ 2 → IsOtherEnd ends i d.edge v
  other_named i j d at is differs two = record { two = two; place = j; differs = differs; at = subst (λ p. slice_get ends j ≡ Some (record { vertex = p; edge = d.edge })) is at }

  pub other_after : (i : ℕ) (e : EdgeEnd) → is_end_at ends v i ≡ true → is_pair i ≡ true → slice_get ends (i + 1) ≡ Some e → IsOtherThere ends i v (Some e.edge)
  other_after i e here pair at =
      let p = pair_is i pair in
      let next = end_there ends v (suc i) p.next in
      let z : suc i ≡ i + 1 = omega arith in
      let is : e.vertex ≡ v = (Decides-same_coords e.vertex v).0 (sym (ap (is_there v) at) ∙ ap (is_end_at ends v) (sym z) ∙ p.next) in
      other_named i (i + 1) e at is (λ same. omega arith) (pair_count i here p)

  -- neither it nor the end before begins a pair
  module _ (i : ℕ) (here : is_end_at ends v i ≡ true) where
    both_true : (a b c : Bool) → a ≡ true → b ≡ false → (a && not b && not c) ≡ false → c ≡ true
    both_true true false true h k n = refl
    both_true true false false h k n = absurd (true≢false n)
    both_true true true c h k n = absurd (true≢false k)
    both_true false b c h k n = absurd (false≢true h)

    middle_true : (a b c : Bool) → a ≡ true → c ≡ false → (a && not b && not c) ≡ false → b ≡ true
    middle_true true true c h k n = refl
    middle_true true false false h k n = absurd (true≢false n)
    middle_true true false true h k n = absurd (true≢false k)
    middle_true false b c h k n = absurd (false≢true h)

    next_is : is_end_at ends v (suc i) ≡ is_end_at ends v (i + 1)
    next_is = (let z : suc i ≡ i + 1 = omega arith in ap (is_end_at ends v) z)

    after_is : is_end_at ends v (suc (suc i)) ≡ is_end_at ends v (i + 2)
    after_is = (let z : suc (suc i) ≡ i + 2 = omega arith in ap (is_end_at ends v) z)

    -- none before it
    pub single : is_pair i ≡ false → is_end_before ends v i ≡ false → ends_at_vertex ends v ≢ 2
    single pair before two = elim (or_not (is_end_at ends v (i + 1))) [
      | inr not_it ↦ (let c = one_place i here (next_is ∙ not_it) before in omega (arith, c))
      | inl it ↦ (let c = three_places i here (next_is ∙ it) (after_is ∙ middle_true _ _ _ it before pair) in omega (arith, c))
    ]

  pub no_pair : (i : ℕ) → is_end_at ends v i ≡ true → is_pair i ≡ false → ((j : ℕ) → i ≡ suc j → is_end_at ends v j ≡ true → is_pair j ≡ false) → ends_at_vertex ends v ≢ 2
  no_pair zero here pair last = single zero here pair refl
  no_pair (suc i) here pair last = elim (or_not (is_end_at ends v i)) [
    | inr not_it ↦ single (suc i) here pair not_it
    | inl low ↦ by_next low (last i refl low) (or_not (is_end_at ends v (i + 2)))
  ]
    where
      by_next : is_end_at ends v i ≡ true → is_pair i ≡ false → (is_end_at ends v (i + 2) ≡ true) ⊎ (is_end_at ends v (i + 2) ≡ false) → ends_at_vertex ends v ≢ 2
      by_next low not_pair (inl next) two = (let c = three_places i low here (after_is i low ∙ next) in omega (arith, c))
      by_next low not_pair (inr none) two =
          let first = both_true i low (is_end_at ends v (i + 1)) (is_end_at ends v (i + 2)) (is_end_before ends v i) (sym (next_is i low) ∙ here) none not_pair in
          by i low first here two
        where
          by : (k : ℕ) → is_end_at ends v k ≡ true → is_end_before ends v k ≡ true → is_end_at ends v (suc k) ≡ true → ends_at_vertex ends v ≡ 2 → ⊥
          by zero low_k first_k here_k two_k = false≢true first_k
          by (suc k) low_k first_k here_k two_k = (let c = three_places k first_k low_k here_k in omega (arith, c))

-- ---- the same by what code reads

module _ (ends : List EdgeEnd) (together : AreEndsGrouped ends) (i : ℕ) (d : EdgeEnd) (at : slice_get ends i ≡ Some d) where
  itself : is_end_at ends d.vertex i ≡ true
  itself = is_there_at ends d.vertex i d at refl

  pub after_within : (is : Bool) → IsPairAt ends i is → is ≡ true → i + 1 < length ends
  after_within is h yes_is =
      let next = end_there ends d.vertex (suc i) (pair_is ends together d.vertex i (sym (h d at) ∙ yes_is)).next in
      let inside = slice_get_within ends (suc i) next.end next.at in
      omega arith

  pub after_named : (is : Bool) → IsPairAt ends i is → is ≡ true → (x : EdgeEnd) → IsOtherEnd ends i (get_or ends (i + 1) x).edge d.vertex
  after_named is h yes_is x = other_after ends together d.vertex i (get_or ends (i + 1) x) itself (sym (h d at) ∙ yes_is) (slice_get-get_or ends (i + 1) x (after_within is h yes_is))

  pub before_named : 0 < i → (is : Bool) → IsPairAt ends (i - 1) is → is ≡ true → (x : EdgeEnd) → IsOtherEnd ends i (get_or ends (i - 1) x).edge d.vertex
  before_named some is h yes_is x =
      let within = slice_get_within ends i d at in
      let e = get_or ends (i - 1) x in
      let at_e = slice_get-get_or ends (i - 1) x (omega arith) in
      let p = pair_is ends together e.vertex (i - 1) (sym (h e at_e) ∙ yes_is) in
      let two = pair_count ends together e.vertex (i - 1) (is_there_at ends e.vertex (i - 1) e at_e refl) p in
      let z : suc (i - 1) ≡ i = omega arith in
      let same : d.vertex ≡ e.vertex = (Decides-same_coords d.vertex e.vertex).0 (sym (ap (is_there e.vertex) at) ∙ sym (ap (is_end_at ends e.vertex) z) ∙ p.next) in
      other_named ends together d.vertex i (i - 1) e at_e (sym same) (λ it. omega (arith, it, some)) (subst (λ v. ends_at_vertex ends v ≡ 2) (sym same) two)

  pub none_named : (is : Bool) → IsPairAt ends i is → is ≡ false → (0 < i → (it : Bool) × (IsPairAt ends (i - 1) it × (it ≡ false))) → ends_at_vertex ends d.vertex ≢ 2
  none_named is h no_is before = no_pair ends together d.vertex i itself (sym (h d at) ∙ no_is) (λ j next low. (
      let last = before (omega arith) in
      let it = end_there ends d.vertex j low in
      let z : i - 1 ≡ j = omega arith in
      subst (λ v. is_pair ends together v j ≡ false) it.is (sym (subst (λ n. IsPairAt ends n last.0) z last.1.0 it.end it.at) ∙ last.1.1)))
