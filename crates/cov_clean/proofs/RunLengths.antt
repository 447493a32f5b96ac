-- Runs of sides: one side more, in the order of members.
use mathlib.Core.List.{[], ◌∷◌}
use Rattle.std.proofs.Common.{◌≡◌, refl, sym, ◌∙◌, ap, subst, ℕ, zero, suc, ◌+◌, ◌*◌, ◌-◌, ◌<◌, ◌≤◌, ◌==◌, ◌^◌, Bool, true, false, cond, List, ◌++◌, length, get_or, set, take, inl, inr, add-one, arith}
use Rattle.std.specs.Prelude.{All, AllPairs, Contains}
use Rattle.std.specs.List.Sorted.{IsNonDecreasingBy}
use Rattle.std.proofs.lemmas.Bool.{cases_eq, cases_lt}
use Rattle.std.proofs.lemmas.List.{length-set, get_or-set_same, get_or-set_other, get_or_default, get_or-take, length-take-le, take_all}
use Rattle.std.proofs.lemmas.List.Elements.{Contains-append_left, Contains-get_or, Contains-push, Contains-push_cases}
use Rattle.std.proofs.lemmas.List.Quantifiers.{all_pairs_push}
use Rattle.std.proofs.lemmas.List.Sums.{sum_by_more}
use Rattle.std.proofs.lemmas.Option.{slice_get_within, get_or_from_slice_get}
use Rattle.owner_label.specs.OwnedSides.{length_by, owned_length}
use Rattle.owner_label.specs.declared.owned_side.OwnedSide.{OwnedSide}
use Rattle.cov_clean.specs.Runs.{AreRuns, IsNewRun, IsLongerRun, IsAdded}
use Rattle.cov_clean.proofs.LongestSides.{own_length, other_length, seen_or_none}

-- no side, no run
pub no_runs : (sides runs : List OwnedSide) → runs ≡ [] → AreRuns (owned_length (take 0 sides)) runs
no_runs sides runs empty = subst (AreRuns (owned_length (take 0 sides))) (sym empty) (record {
  ascending = λ i j d before within. absurd (omega arith);
  exact = λ run. (
    (λ has. absurd (let inside = has.1 in omega arith)),
    (λ is. absurd (let some = is.0 in let none = is.1 in omega (arith, some, none))),
  );
})

-- the lengths of the first sides are small
side_small : (s : OwnedSide) → s.length < 2 ^ 64 → (i : ℕ) → length_by i s < 2 ^ 64
side_small s short i = by (s.member == i)
  where
    by : (b : Bool) → cond b s.length 0 < 2 ^ 64
    by true = short
    by false = omega arith

pub lengths_small : (sides : List OwnedSide) → All (λ (s : OwnedSide). s.length < 2 ^ 64) sides → (k : ℕ) → k ≤ length sides → (i : ℕ) → owned_length (take k sides) i ≤ k * 2 ^ 64
lengths_small sides short zero within i = omega arith
lengths_small sides short (suc k) within i =
    let none : OwnedSide = record { member = 0; length = 0 } in
    let s = get_or sides k none in
    let before = lengths_small sides short k (omega arith) i in
    let more = sum_by_more (length_by i) sides k none (omega arith) in
    let grown = ap (λ n. owned_length (take n sides) i) (sym (add-one k)) in
    let low = side_small s (short k none (omega arith)) i in
    omega (arith, before, more, grown, low)

module _ (sides : List OwnedSide) (k : ℕ) (s : OwnedSide) (inside : k < length sides) (at : s ≡ get_or sides k s) (rise : IsNonDecreasingBy (λ (t : OwnedSide). t.member) sides) (long : 0 < s.length)
    (runs : List OwnedSide) (so_far : AreRuns (owned_length (take k sides)) runs) (after : List OwnedSide) where
  -- ---- lengths

  more : (i : ℕ) → owned_length (take (k + 1) sides) i ≡ owned_length (take k sides) i + length_by i s
  more i = sum_by_more (length_by i) sides k s inside ∙ ap (λ (t : OwnedSide). owned_length (take k sides) i + length_by i t) (sym at)

  own_more : owned_length (take (k + 1) sides) s.member ≡ owned_length (take k sides) s.member + s.length
  own_more = more s.member ∙ ap (λ n. owned_length (take k sides) s.member + n) (own_length s s.member refl)

  other_same : (i : ℕ) → (i ≡ s.member → ⊥) → owned_length (take (k + 1) sides) i ≡ owned_length (take k sides) i
  other_same i other = let none = other_length s i (λ e. other (sym e)) in let m = more i in omega (arith, none, m)

  -- no run so far is of a greater member
  up_to : (run : OwnedSide) → Contains runs run → run.member ≤ s.member
  up_to run has =
      let is = (so_far.exact run).0 has in
      elim (seen_or_none (take k sides) run.member) [
        | inl seen ↦ (
            let within = slice_get_within (take k sides) seen.place seen.side seen.listed in
            let found = get_or_from_slice_get (take k sides) seen.place seen.side s seen.listed in
            let count : seen.place < k = before_end seen.place within in
            let there = get_or-take k sides seen.place s count in
            let rises = rise seen.place k s (omega (arith, count)) inside in
            let mine = ap (λ (t : OwnedSide). t.member) (sym there ∙ found) in
            let its = seen.its in
            let here = ap (λ (t : OwnedSide). t.member) at in
            omega (arith, rises, mine, its, here)
            )
        | inr none ↦ (let some = is.0 in let same = is.1 in absurd (omega (arith, some, same, none)))
      ]
    where
      before_end : (place : ℕ) → place < length (take k sides) → place < k
      before_end place within = let count = length-take-le k sides (omega (arith, inside)) in omega (arith, within, count)

  -- ---- a new run

  module _ (h : IsNewRun runs s after) where
    below : (j : ℕ) (d : OwnedSide) → j < length runs → (get_or runs j d).member < s.member
    below j d within =
        let last = length runs - 1 in
        let there : last < length runs = omega (arith, within) in
        let most = up_to (get_or runs last s) (Contains-get_or runs last s there) in
        let other = h.other (omega (arith, within)) in
        let less : (get_or runs last s).member < s.member = strict (get_or runs last s).member most other in
        let same = ap (λ (t : OwnedSide). t.member) (get_or_default runs j d s within) in
        elim (cases_eq j last) [
          | inl is ↦ (let moved = ap (λ i. (get_or runs i s).member) is in omega (arith, less, same, moved))
          | inr apart ↦ (let rises = so_far.ascending j last s (omega (arith, within, apart)) there in omega (arith, less, same, rises))
        ]
      where
        strict : (m : ℕ) → m ≤ s.member → (m ≡ s.member → ⊥) → m < s.member
        strict m most other = elim (cases_lt m s.member) [ inl less ↦ less | inr past ↦ absurd (other (omega (arith, most, past))) ]

    none_so_far : owned_length (take k sides) s.member ≡ 0
    none_so_far = elim (cases_lt 0 (owned_length (take k sides) s.member)) [
      | inl some ↦ (
          let run : OwnedSide = record { member = s.member; length = owned_length (take k sides) s.member } in
          let has = (so_far.exact run).1 (some, refl) in
          let less = below has.0 run has.1 in
          let is = ap (λ (t : OwnedSide). t.member) has.2 in
          absurd (omega (arith, less, is))
          )
      | inr none ↦ omega (arith, none)
    ]

    into : (run : OwnedSide) → Contains (runs ++ s ∷ []) run → (0 < run.length) × (run.length ≡ owned_length (take (k + 1) sides) run.member)
    into run has = elim (Contains-push_cases runs s run has) [
      | inl old ↦ (
          let is = (so_far.exact run).0 old in
          let less = below old.0 run old.1 in
          let here = ap (λ (t : OwnedSide). t.member) old.2 in
          (is.0, is.1 ∙ sym (other_same run.member (λ e. (omega (arith, less, here, e))))))
      | inr new ↦ subst (λ (t : OwnedSide). (0 < t.length) × (t.length ≡ owned_length (take (k + 1) sides) t.member)) new (long, (let own = own_more in let none = none_so_far in omega (arith, own, none)))
    ]

    from : (run : OwnedSide) → (0 < run.length) × (run.length ≡ owned_length (take (k + 1) sides) run.member) → Contains (runs ++ s ∷ []) run
    from run is = elim (cases_eq run.member s.member) [
      | inl same ↦ (
          let len : run.length ≡ s.length = is.1 ∙ ap (owned_length (take (k + 1) sides)) same ∙ own_more ∙ ap (λ n. n + s.length) none_so_far ∙ (omega arith) in
          let one : run ≡ s = λ i. record { member = same i; length = len i } in
          subst (Contains (runs ++ s ∷ [])) (sym one) (Contains-push runs s))
      | inr other ↦ Contains-append_left runs (s ∷ []) run ((so_far.exact run).1 (is.0, is.1 ∙ other_same run.member other))
    ]

    new_runs : AreRuns (owned_length (take (k + 1) sides)) after
    new_runs = subst (AreRuns (owned_length (take (k + 1) sides))) (sym h.pushed) (record {
      ascending = all_pairs_push (λ (a b : OwnedSide). a.member < b.member) runs s so_far.ascending below;
      exact = λ run. (into run, from run);
    })

  -- ---- a longer run

  module _ (h : IsLongerRun runs s after) where
    abbrev last : ℕ
    last = length runs - 1

    abbrev r : OwnedSide
    r = get_or runs last s

    abbrev y : OwnedSide
    y = record { member = s.member; length = r.length + s.length }

    there : last < length runs
    there = let some = h.some in omega (arith, some)

    r_exact : (0 < r.length) × (r.length ≡ owned_length (take k sides) r.member)
    r_exact = (so_far.exact r).0 (Contains-get_or runs last s there)

    -- the members are as they were
    member_at : (j : ℕ) (d : OwnedSide) → j < length runs → (get_or (set runs last y) j d).member ≡ (get_or runs j d).member
    member_at j d within = elim (cases_eq j last) [
      | inl same ↦ (
          ap (λ i. (get_or (set runs last y) i d).member) same ∙ ap (λ (t : OwnedSide). t.member) (get_or-set_same runs last y d there)
          ∙ sym h.same ∙ ap (λ (t : OwnedSide). t.member) (get_or_default runs last s d there) ∙ ap (λ i. (get_or runs i d).member) (sym same))
      | inr other ↦ ap (λ (t : OwnedSide). t.member) (get_or-set_other runs last j y d other)
    ]

    older : (j : ℕ) (d : OwnedSide) → j < length runs → (j ≡ last → ⊥) → (get_or runs j d).member < s.member
    older j d within other =
        let same = ap (λ (t : OwnedSide). t.member) (get_or_default runs j d s within) in
        let rises = so_far.ascending j last s (omega (arith, within, other)) there in
        let its = h.same in
        omega (arith, same, rises, its)

    longer_ascending : AllPairs (λ (a b : OwnedSide). a.member < b.member) (set runs last y)
    longer_ascending i j d before within =
        let count = length-set runs last y in
        let end : j < length runs = omega (arith, count, within) in
        let first = member_at i d (omega (arith, end, before)) in
        let second = member_at j d end in
        let rises = so_far.ascending i j d before end in
        omega (arith, first, second, rises)

    y_is : y.length ≡ owned_length (take (k + 1) sides) y.member
    y_is =
        let own = own_more in
        let is = r_exact.1 in
        let moved = ap (owned_length (take k sides)) h.same in
        omega (arith, own, is, moved)

    longer_into : (run : OwnedSide) → Contains (set runs last y) run → (0 < run.length) × (run.length ≡ owned_length (take (k + 1) sides) run.member)
    longer_into run (j, within, is) = elim (cases_eq j last) [
      | inl same ↦ (
          let one : y ≡ run = sym (ap (λ i. get_or (set runs last y) i run) same ∙ get_or-set_same runs last y run there) ∙ is in
          subst (λ (t : OwnedSide). (0 < t.length) × (t.length ≡ owned_length (take (k + 1) sides) t.member)) one (omega (arith, long), y_is))
      | inr other ↦ (
          let count = length-set runs last y in
          let end : j < length runs = omega (arith, count, within) in
          let old = sym (get_or-set_other runs last j y run other) ∙ is in
          let its = (so_far.exact run).0 (j, end, old) in
          let less = older j run end other in
          let here = ap (λ (t : OwnedSide). t.member) old in
          (its.0, its.1 ∙ sym (other_same run.member (λ e. (omega (arith, less, here, e))))))
    ]

    longer_from : (run : OwnedSide) → (0 < run.length) × (run.length ≡ owned_length (take (k + 1) sides) run.member) → Contains (set runs last y) run
    longer_from run is = elim (cases_eq run.member s.member) [
      | inl same ↦ (
          let len : run.length ≡ y.length = is.1 ∙ ap (owned_length (take (k + 1) sides)) same ∙ sym y_is in
          let one : run ≡ y = λ i. record { member = same i; length = len i } in
          subst (Contains (set runs last y)) (sym one) (last, (let count = length-set runs last y in let end = there in omega (arith, count, end)), get_or-set_same runs last y y there))
      | inr other ↦ (
          let has = (so_far.exact run).1 (is.0, is.1 ∙ other_same run.member other) in
          let apart : has.0 ≡ last → ⊥ = λ e. other (sym (ap (λ (t : OwnedSide). t.member) has.2) ∙ ap (λ i. (get_or runs i run).member) e ∙ ap (λ (t : OwnedSide). t.member) (get_or_default runs last run s there) ∙ h.same) in
          (has.0, (let count = length-set runs last y in let end = has.1 in omega (arith, count, end)), get_or-set_other runs last has.0 y run apart ∙ has.2))
    ]

    longer_runs : AreRuns (owned_length (take (k + 1) sides)) after
    longer_runs = subst (AreRuns (owned_length (take (k + 1) sides))) (sym h.put) (record { ascending = longer_ascending; exact = λ run. (longer_into run, longer_from run) })

  pub runs_more : IsAdded runs s after → AreRuns (owned_length (take (k + 1) sides)) after
  runs_more (inl new) = new_runs new
  runs_more (inr longer) = longer_runs longer

  -- the sum for the last run fits
  pub run_fits : All (λ (t : OwnedSide). t.length < 2 ^ 64) sides → length sides < 2 ^ 64 → s.length < 2 ^ 64 → All (λ (run : OwnedSide). run.length + s.length < 2 ^ 128) runs
  run_fits short count low j d within =
      let run = get_or runs j d in
      let is = ((so_far.exact run).0 (Contains-get_or runs j d within)).1 in
      let small = lengths_small sides short k (omega (arith, inside)) run.member in
      omega (arith, is, small, count, low, inside)

pub runs_all : (sides : List OwnedSide) (k : ℕ) (runs : List OwnedSide) → length sides ≤ k → AreRuns (owned_length (take k sides)) runs → AreRuns (owned_length sides) runs
runs_all sides k runs past are = subst (λ xs. AreRuns (owned_length xs) runs) (take_all k sides past) are
