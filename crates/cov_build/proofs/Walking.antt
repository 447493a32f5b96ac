-- A walk along next: it visits each half-edge once, and comes back to its start.
use mathlib.Core.List.{List, [], ◌∷◌, ◌++◌}
use Rattle.std.proofs.Common.{◌≡◌, refl, sym, ◌∙◌, ap, subst, ℕ, zero, suc, ◌+◌, ◌*◌, ◌<◌, ◌==◌, Bool, true, false, true≢false, cond, length, get_or, set, count_by, ◌⊎◌, inl, inr, arith}
use Rattle.std.proofs.lemmas.Bool.{cases_eq, eq-eqb, ne_eqb}
use Rattle.std.proofs.lemmas.List.{length-set, get_or-set_same, get_or-set_other}
use Rattle.std.proofs.lemmas.List.Sums.{sum_by-append, sum_by-set}
use Rattle.cov_types.specs.declared.seg.Seg.{Seg}
use Rattle.half_edge.proofs.Counts.{number_within}
use Rattle.sector_laws.specs.Sector.{IsNextNumber, IsPlanar, AreDistinct}
use Rattle.sector_laws.proofs.Numbers.{one_next_number, next_of_one_number}
use Rattle.cov_build.specs.Walks.{first_or, LeadsByNext, is_visited, visit_of, occurrences, AreVisitFlags, IsWalkFrom}

abbrev pub bit : Bool → ℕ
bit b = cond b 1 0

-- ---- ways that lead on

pub leads-push : (edges : List Seg) (way : List ℕ) (h m : ℕ) → LeadsByNext edges way h → IsNextNumber edges h m → LeadsByNext edges (way ++ h ∷ []) m
leads-push edges [] h m leads next = (next, tt)
leads-push edges (n ∷ []) h m leads next = (leads.0, (next, tt))
leads-push edges (n ∷ k ∷ way) h m leads next = (leads.0, leads-push edges (k ∷ way) h m leads.1 next)

first-push : (way : List ℕ) (h m : ℕ) → first_or m (way ++ h ∷ []) ≡ first_or h way
first-push [] h m = refl
first-push (n ∷ way) h m = refl

pub occurrences-push : (n : ℕ) (way : List ℕ) (m : ℕ) → occurrences n (way ++ m ∷ []) ≡ occurrences n way + bit (m == n)
occurrences-push n way m = (let split = sum_by-append (λ k. bit (k == n)) way (m ∷ []) in omega (arith, split))

-- ---- visits

mark_true : (seen : List Bool) (n : ℕ) → is_visited seen n ≡ true → visit_of seen n ≡ 1
mark_true seen n h = ap bit h

mark_false : (seen : List Bool) (n : ℕ) → is_visited seen n ≡ false → visit_of seen n ≡ 0
mark_false seen n h = ap bit h

module _ (edges : List Seg) (start : ℕ) (before : List Bool) where
  -- the walk has come to h, past the way
  pub record IsWalking (h : ℕ) (way : List ℕ) (now : List Bool) : Type 0 where
    pub count : length now ≡ 2 * length edges
    pub within : h < 2 * length edges
    pub leads : LeadsByNext edges way h
    pub first : first_or h way ≡ start
    pub each : (n : ℕ) → occurrences n way + visit_of before n ≡ visit_of now n
    pub come : ((h ≡ start) × (way ≡ [])) ⊎ ((last : ℕ) × (IsNextNumber edges last h × (is_visited now last ≡ true)))
    pub back : is_visited now h ≡ true → h ≡ start
    pub along : (n m : ℕ) → IsNextNumber edges n m → (is_visited now n ≡ is_visited now m) ⊎ ((m ≡ start) ⊎ (m ≡ h))

module _ (edges : List Seg) (planar : IsPlanar edges) (distinct : AreDistinct edges) (start : ℕ) (before : List Bool) where
  pub walk_none : AreVisitFlags edges before → start < 2 * length edges → (way : List ℕ) → way ≡ [] → IsWalking edges start before start way before
  walk_none flags within way none = subst (λ w. IsWalking edges start before start w before) (sym none) (record {
    count = flags.count;
    within = within;
    leads = tt;
    first = refl;
    each = λ n. (let no_occurrence : occurrences n [] ≡ 0 = refl in omega (arith, no_occurrence));
    come = inl (refl, refl);
    back = λ _. refl;
    along = λ n m to. inl (flags.along n m to);
  })

  pub walk_more : (h next : ℕ) (way : List ℕ) (now : List Bool) → is_visited now h ≡ false → IsNextNumber edges h next → IsWalking edges start before h way now → IsWalking edges start before next (way ++ h ∷ []) (set now h true)
  walk_more h next way now free leads walk =
      let after : List Bool = set now h true in
      let below : h < length now = omega (arith, walk.within, walk.count) in
      let here : is_visited after h ≡ true = get_or-set_same now h true false below in
      let other : (n : ℕ) → (n ≡ h → ⊥) → is_visited after n ≡ is_visited now n = λ n apart. get_or-set_other now h n true false apart in
      let one_before : (n : ℕ) → IsNextNumber edges n h → (h ≡ start) ⊎ (is_visited now n ≡ true) = λ n to. elim walk.come [
        | inl first ↦ inl first.0
        | inr past ↦ inr (ap (is_visited now) (next_of_one_number edges planar distinct n past.0 h to past.1.0) ∙ past.1.1)
      ] in
      record {
        count = length-set now h true ∙ walk.count;
        within = number_within edges next leads.to leads.to_is;
        leads = leads-push edges way h next walk.leads leads;
        first = first-push way h next ∙ walk.first;
        each = λ n. (let was = walk.each n in let pushed = occurrences-push n way h in elim (cases_eq h n) [
          | inl same ↦ (
              let one : bit (h == n) ≡ 1 = ap bit (eq-eqb h n same) in
              let free_n : visit_of now n ≡ 0 = mark_false now n (ap (is_visited now) (sym same) ∙ free) in
              let now_n : visit_of after n ≡ 1 = mark_true after n (ap (is_visited after) (sym same) ∙ here) in
              omega (arith, was, pushed, one, free_n, now_n)
              )
          | inr apart ↦ (
              let none : bit (h == n) ≡ 0 = ap bit (ne_eqb h n apart) in
              let same : visit_of after n ≡ visit_of now n = ap bit (other n (λ e. apart (sym e))) in
              omega (arith, was, pushed, none, same)
              )
        ]);
        come = inr (h, (leads, here));
        back = λ marked. elim (cases_eq next h) [
          | inl same ↦ elim (one_before h (subst (λ k. IsNextNumber edges h k) same leads)) [
            | inl at_start ↦ same ∙ at_start
            | inr itself ↦ absurd (true≢false (sym itself ∙ free))
          ]
          | inr apart ↦ elim (walk.along h next leads) [
            | inl same ↦ absurd (true≢false (sym marked ∙ other next apart ∙ sym same ∙ free))
            | inr end ↦ elim end [ inl at_start ↦ at_start | inr to_h ↦ absurd (apart to_h) ]
          ]
        ];
        along = λ n m to. elim (cases_eq n h) [
          | inl at_h ↦ inr (inr (one_next_number edges planar distinct n m next to (subst (λ k. IsNextNumber edges k next) (sym at_h) leads)))
          | inr apart ↦ elim (cases_eq m h) [
            | inl onto ↦ elim (one_before n (subst (λ k. IsNextNumber edges n k) onto to)) [
              | inl at_start ↦ inr (inl (onto ∙ at_start))
              | inr marked ↦ inl (other n apart ∙ marked ∙ sym here ∙ ap (is_visited after) (sym onto))
            ]
            | inr off ↦ elim (walk.along n m to) [
              | inl same ↦ inl (other n apart ∙ same ∙ sym (other m off))
              | inr end ↦ elim end [ inl at_start ↦ inr (inl at_start) | inr at_h ↦ absurd (off at_h) ]
            ]
          ]
        ];
      }

  pub walk_end : (h : ℕ) (way : List ℕ) (now : List Bool) → is_visited before start ≡ false → is_visited now h ≡ true → IsWalking edges start before h way now → IsWalkFrom edges start before way now
  walk_end h way now free marked walk =
      let at_start : h ≡ start = walk.back marked in
      let start_marked : is_visited now start ≡ true = ap (is_visited now) (sym at_start) ∙ marked in
      let some : 0 < length way = by_way way (walk.each start) start_marked in
      let first : first_or 0 way ≡ start = one_first way some ∙ walk.first in
      let to_start : (n : ℕ) → IsNextNumber edges n start → is_visited now n ≡ true = λ n to. elim walk.come [
        | inl none ↦ absurd (let empty = ap length none.1 in omega (arith, empty, some))
        | inr past ↦ ap (is_visited now) (next_of_one_number edges planar distinct n past.0 start to (subst (λ k. IsNextNumber edges past.0 k) at_start past.1.0)) ∙ past.1.1
      ] in
      let round : (n m : ℕ) → IsNextNumber edges n m → m ≡ start → is_visited now n ≡ is_visited now m = λ n m to same.
      to_start n (subst (λ k. IsNextNumber edges n k) same to) ∙ sym start_marked ∙ ap (is_visited now) (sym same) in
      record {
        round = record { leads = subst (LeadsByNext edges way) (at_start ∙ sym first) walk.leads; some = some };
        first = first;
        flags = record {
          count = walk.count;
          along = λ n m to. elim (walk.along n m to) [
            | inl same ↦ same
            | inr end ↦ elim end [ inl same ↦ round n m to same | inr here ↦ round n m to (here ∙ at_start) ]
          ];
        };
        each = walk.each;
      }
    where
      by_way : (w : List ℕ) → occurrences start w + visit_of before start ≡ visit_of now start → is_visited now start ≡ true → 0 < length w
      by_way [] each is = absurd (let a = mark_false before start free in let b = mark_true now start is in let none : occurrences start [] ≡ 0 = refl in omega (arith, a, b, none, each))
      by_way (n ∷ w) each is = omega arith

      one_first : (w : List ℕ) → 0 < length w → first_or 0 w ≡ first_or h w
      one_first [] less = absurd (omega arith)
      one_first (n ∷ w) less = refl

-- ---- fewer and fewer are free

pub fewer_free : (h : ℕ) (now : List Bool) → h < length now → is_visited now h ≡ false → count_by (λ b. cond b false true) (set now h true) < count_by (λ b. cond b false true) now
fewer_free h now below free =
    let moved = sum_by-set (λ b. bit (cond b false true)) now h true false below in
    let was : bit (cond (get_or now h false) false true) ≡ 1 = ap (λ b. bit (cond b false true)) free in
    omega (arith, moved, was)

-- ---- the half-edges of a walk are within

pub leads_within : (edges : List Seg) (way : List ℕ) (m : ℕ) → LeadsByNext edges way m → (k d : ℕ) → k < length way → get_or way k d < 2 * length edges
leads_within edges [] m leads k d below = absurd (omega (arith, below))
leads_within edges (n ∷ way) m leads zero d below = number_within edges n leads.0.from leads.0.from_is
leads_within edges (n ∷ way) m leads (suc k) d below = leads_within edges way m leads.1 k d (omega (arith, below))
