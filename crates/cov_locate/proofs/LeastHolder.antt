-- The least member that holds a point: an odd number of its rings does.
use Rattle.std.proofs.Common.{◌≡◌, refl, sym, ap, ◌∙◌, ℕ, zero, suc, ◌+◌, ◌-◌, ◌<◌, ◌≤◌, ◌%◌, ◌==◌, Bool, true, false, not, ◌&&◌, cond, List, length, get_or, take, All, count_by, arith, inl, inr}
use Rattle.std.specs.Prelude.{AllPairs, if◌then◌else◌}
use Rattle.std.proofs.lemmas.Bool.{cases_lt, cases_eq, and_left, and_right, and_from, eq-eqb, ne_eqb}
use Rattle.std.proofs.lemmas.List.{take_more, take_all, get_or_default}
use Rattle.std.proofs.lemmas.List.Sums.{sum_by_push}
use Rattle.cov_locate.specs.Rings.{IsNextRing}
use Rattle.cov_locate.specs.Where.{IsLeastHolder, IsHeldByNone, IsWhere}
use Rattle.cov_locate.specs.declared.place.Where.TheVariants.{Member, Nowhere}
use Rattle.cov_types.specs.Rings.{AreInRow, IsRing}
use Rattle.cov_types.specs.declared.coord.Coord.{Coord}
use Rattle.cov_types.specs.declared.edge_use.EdgeUse.{EdgeUse}
use Rattle.cov_types.specs.declared.ring_run.RingRun.{RingRun}
use Rattle.parity_laws.proofs.Members.{member_runs}
use Rattle.parity_laws.proofs.Parts.{odd_sum, odd_one}
use Rattle.parity_laws.specs.Paths.{differ}
use Rattle.parity_laws.specs.Runs.{run_holds}
use Rattle.plane.specs.Parity.{member_holds}
use Rattle.plane.specs.Point.{at_coord}

differ-false : (a : Bool) → differ a false ≡ a
differ-false true = refl
differ-false false = refl

differ-true : (a : Bool) → differ a true ≡ not a
differ-true true = refl
differ-true false = refl

-- the run is the member's and holds the point
abbrev counts_for : List EdgeUse → Coord → ℕ → RingRun → Bool
counts_for uses p member run = (run.member == member) && run_holds uses (at_coord p) run

-- an odd number of the member's first so many runs holds the point
abbrev pub odd_to : List EdgeUse → List RingRun → Coord → ℕ → ℕ → Bool
odd_to uses runs p n member = count_by (counts_for uses p member) (take n runs) % 2 == 1

-- of the first so many runs, an odd number of no member but this one holds the point; those that follow are not of lesser members
pub record IsSeen (uses : List EdgeUse) (runs : List RingRun) (p : Coord) (passed member : ℕ) (odd : Bool) : Type 0 where
  pub within : passed ≤ length runs
  pub own : odd ≡ odd_to uses runs p passed member
  pub others : (other : ℕ) → ¬ (other ≡ member) → odd_to uses runs p passed other ≡ false
  pub later : (k : ℕ) (d : RingRun) → passed ≤ k → k < length runs → member ≤ (get_or runs k d).member

pub seen_none : (uses : List EdgeUse) (runs : List RingRun) (p : Coord) → IsSeen uses runs p 0 0 false
seen_none uses runs p = record { within = omega arith; own = refl; others = λ other apart. refl; later = λ k d low high. omega arith }

module _ (uses : List EdgeUse) (runs : List RingRun) (p : Coord) where
  one_more : (n member : ℕ) (d : RingRun) → n < length runs → odd_to uses runs p (n + 1) member ≡ differ (odd_to uses runs p n member) (counts_for uses p member (get_or runs n d))
  one_more n member d within =
      let counts = counts_for uses p member in
      ap (λ rs. count_by counts rs % 2 == 1) (take_more runs n d within)
      ∙ ap (λ m. m % 2 == 1) (sum_by_push (λ r. cond (counts r) 1 0) (take n runs) (get_or runs n d))
      ∙ odd_sum (count_by counts (take n runs)) (cond (counts (get_or runs n d)) 1 0)
      ∙ ap (differ (count_by counts (take n runs) % 2 == 1)) (odd_one (counts (get_or runs n d)))

  -- runs that do not count change nothing
  none_more : (n i member : ℕ) (d : RingRun) → n + i ≤ length runs → ((k : ℕ) → n ≤ k → k < n + i → counts_for uses p member (get_or runs k d) ≡ false) → odd_to uses runs p (n + i) member ≡ odd_to uses runs p n member
  none_more n zero member d within none =
      let same : n + zero ≡ n = omega arith in
      ap (λ k. odd_to uses runs p k member) same
  none_more n (suc i) member d within none =
      let step : n + suc i ≡ (n + i) + 1 = omega arith in
      ap (λ k. odd_to uses runs p k member) step
      ∙ one_more (n + i) member d (omega (arith, within))
      ∙ ap (differ (odd_to uses runs p (n + i) member)) (none (n + i) (omega arith) (omega arith))
      ∙ differ-false (odd_to uses runs p (n + i) member)
      ∙ none_more n i member d (omega (arith, within)) (λ k low high. none k low (omega (arith, high)))

  none_to : (n m member : ℕ) (d : RingRun) → n ≤ m → m ≤ length runs → ((k : ℕ) → n ≤ k → k < m → counts_for uses p member (get_or runs k d) ≡ false) → odd_to uses runs p m member ≡ odd_to uses runs p n member
  none_to n m member d low within none =
      let i = m - n in
      let end : n + i ≡ m = omega arith in
      ap (λ k. odd_to uses runs p k member) (sym end) ∙ none_more n i member d (omega (arith, within, end)) (λ k l h. none k l (omega (arith, h, end)))

  no_run : RingRun
  no_run = record { member = 0; from = 0; to = 0 }

  -- runs that do not hold the point change nothing
  pub seen_past : (passed next member : ℕ) (odd : Bool) → passed ≤ next → next ≤ length runs → ((k : ℕ) (d : RingRun) → passed ≤ k → k < next → run_holds uses (at_coord p) (get_or runs k d) ≡ false)
      → IsSeen uses runs p passed member odd → IsSeen uses runs p next member odd
  seen_past passed next member odd up within none seen =
      let so_far : (m : ℕ) → odd_to uses runs p next m ≡ odd_to uses runs p passed m =
      λ m. none_to passed next m no_run up within (λ k low high. and_right ((get_or runs k no_run).member == m) (run_holds uses (at_coord p) (get_or runs k no_run)) (none k no_run low high)) in
      record {
        within = within;
        own = seen.own ∙ sym (so_far member);
        others = λ m apart. so_far m ∙ seen.others m apart;
        later = λ k d low high. seen.later k d (omega (arith, up, low)) high;
      }

  -- up to the next run that holds the point
  to_next : (passed next member : ℕ) → passed ≤ next → IsNextRing uses runs p passed next → odd_to uses runs p next member ≡ odd_to uses runs p passed member
  to_next passed next member up is =
      none_to passed next member no_run up is.ends (λ k low high. and_right ((get_or runs k no_run).member == member) (run_holds uses (at_coord p) (get_or runs k no_run)) (is.passed k no_run low high))

  -- one run more that holds the point, of the owner
  pub seen_more : (passed next member owner : ℕ) (odd more : Bool) (run : RingRun) → AllPairs (λ r s. r.member ≤ s.member) runs → IsSeen uses runs p passed member odd → IsNextRing uses runs p passed next → next < length runs
      → run ≡ get_or runs next run → owner ≡ run.member → (owner ≡ member → more ≡ not odd) → (¬ (owner ≡ member) → (odd ≡ false) × (more ≡ true)) → IsSeen uses runs p (next + 1) owner more
  seen_more passed next member owner odd more run ascending seen is within at owner_is same other =
      let held = is.holds run within in
      let owned : (get_or runs next run).member ≡ owner = ap (λ (r : RingRun). r.member) (sym at) ∙ sym owner_is in
      let so_far : (m : ℕ) → odd_to uses runs p next m ≡ odd_to uses runs p passed m = λ m. to_next passed next m held.0 is in
      let counts : counts_for uses p owner (get_or runs next run) ≡ true = and_from ((get_or runs next run).member == owner) (run_holds uses (at_coord p) (get_or runs next run)) (eq-eqb (get_or runs next run).member owner owned) held.1 in
      record {
        within = omega (arith, within);
        own =
            let turned : odd_to uses runs p (next + 1) owner ≡ not (odd_to uses runs p passed owner) =
            one_more next owner run within ∙ ap (differ (odd_to uses runs p next owner)) counts ∙ differ-true (odd_to uses runs p next owner) ∙ ap not (so_far owner) in
            elim (cases_eq owner member) [
              | inl e ↦ same e ∙ ap not (seen.own ∙ ap (odd_to uses runs p passed) (sym e)) ∙ sym turned
              | inr apart ↦ (other apart).1 ∙ sym (ap not (seen.others owner apart)) ∙ sym turned
            ];
        others = λ m apart.
            let not_counted : counts_for uses p m (get_or runs next run) ≡ false =
            and_left ((get_or runs next run).member == m) (run_holds uses (at_coord p) (get_or runs next run)) (ne_eqb (get_or runs next run).member m (λ e. apart (sym e ∙ owned))) in
            let kept : odd_to uses runs p (next + 1) m ≡ odd_to uses runs p passed m =
            one_more next m run within ∙ ap (differ (odd_to uses runs p next m)) not_counted ∙ differ-false (odd_to uses runs p next m) ∙ so_far m in
            elim (cases_eq m member) [
              | inl e ↦ kept ∙ ap (odd_to uses runs p passed) e ∙ sym seen.own ∙ (other (λ f. apart (e ∙ sym f))).0
              | inr e ↦ kept ∙ seen.others m e
            ];
        later = λ k d low high.
            let up : (get_or runs next d).member ≤ (get_or runs k d).member = ascending next k d (omega (arith, low)) high in
            let first : (get_or runs next d).member ≡ owner = ap (λ (r : RingRun). r.member) (get_or_default runs next d run within) ∙ owned in
            omega (arith, up, first);
      }

  -- ---- the answer

  module _ (starts : List Coord) (row : AreInRow 0 runs (length uses)) (rings : All (IsRing uses starts) runs) where
    all_odd : (member : ℕ) → member_holds uses member (at_coord p) ≡ odd_to uses runs p (length runs) member
    all_odd member = member_runs uses starts runs member (at_coord p) row rings ∙ ap (λ rs. count_by (counts_for uses p member) rs % 2 == 1) (sym (take_all (length runs) runs (omega arith)))

    -- no run is left
    at_end : (passed next member : ℕ) (odd : Bool) (m : ℕ) → IsSeen uses runs p passed member odd → IsNextRing uses runs p passed next → next ≡ length runs → member_holds uses m (at_coord p) ≡ odd_to uses runs p passed m
    at_end passed next member odd m seen is end = all_odd m ∙ ap (λ k. odd_to uses runs p k m) (sym end) ∙ to_next passed next m (omega (arith, seen.within, end)) is

    pub last_holds : (passed next member : ℕ) (odd : Bool) → IsSeen uses runs p passed member odd → IsNextRing uses runs p passed next → next ≡ length runs → odd ≡ true → IsLeastHolder uses p member
    last_holds passed next member odd seen is end odd_is = record {
      holds = at_end passed next member odd member seen is end ∙ sym seen.own ∙ odd_is;
      least = λ m less. at_end passed next member odd m seen is end ∙ seen.others m (λ e. omega (arith, less, e));
    }

    pub none_holds : (passed next member : ℕ) (odd : Bool) → IsSeen uses runs p passed member odd → IsNextRing uses runs p passed next → next ≡ length runs → odd ≡ false → IsHeldByNone uses p
    none_holds passed next member odd seen is end even_is m =
        elim (cases_eq m member) [
          | inl e ↦ at_end passed next member odd m seen is end ∙ ap (odd_to uses runs p passed) e ∙ sym seen.own ∙ even_is
          | inr apart ↦ at_end passed next member odd m seen is end ∙ seen.others m apart
        ]

    -- the next run is of another member
    at_other : (passed next member m : ℕ) (odd : Bool) (run : RingRun) → AllPairs (λ r s. r.member ≤ s.member) runs → IsSeen uses runs p passed member odd → IsNextRing uses runs p passed next → next < length runs
        → run ≡ get_or runs next run → ¬ (run.member ≡ member) → m ≤ member → member_holds uses m (at_coord p) ≡ odd_to uses runs p passed m
    at_other passed next member m odd run ascending seen is within at apart least =
        let up = (is.holds run within).0 in
        let owner_up : member ≤ (get_or runs next run).member = seen.later next run up within in
        let owned : (get_or runs next run).member ≡ run.member = ap (λ (r : RingRun). r.member) (sym at) in
        let greater : member < run.member = above member run.member (omega (arith, owner_up, owned)) apart in
        all_odd m
        ∙ none_to next (length runs) m run (omega (arith, within)) (omega arith)
        (λ k low high.
        let later : (get_or runs next run).member ≤ (get_or runs k run).member = from_next next k run low high in
        and_left ((get_or runs k run).member == m) (run_holds uses (at_coord p) (get_or runs k run)) (ne_eqb (get_or runs k run).member m (λ e. omega (arith, e, later, owned, greater, least))))
        ∙ to_next passed next m up is
      where
        above : (a b : ℕ) → a ≤ b → ¬ (b ≡ a) → a < b
        above a b le apart = elim (cases_lt a b) [ inl less ↦ less | inr more ↦ absurd (apart (omega (arith, le, more))) ]

        from_next : (j k : ℕ) (d : RingRun) → j ≤ k → k < length runs → (get_or runs j d).member ≤ (get_or runs k d).member
        from_next j k d low high =
            elim (cases_lt j k) [
              | inl less ↦ ascending j k d less high
              | inr same ↦ (let here : j ≡ k = omega (arith, low, same) in omega (arith, ap (λ (n : ℕ). (get_or runs n d).member) here))
            ]

    pub other_holds : (passed next member : ℕ) (odd : Bool) (run : RingRun) → AllPairs (λ r s. r.member ≤ s.member) runs → IsSeen uses runs p passed member odd → IsNextRing uses runs p passed next → next < length runs
        → run ≡ get_or runs next run → ¬ (run.member ≡ member) → odd ≡ true → IsLeastHolder uses p member
    other_holds passed next member odd run ascending seen is within at apart odd_is = record {
      holds = at_other passed next member member odd run ascending seen is within at apart (omega arith) ∙ sym seen.own ∙ odd_is;
      least = λ m less. at_other passed next member m odd run ascending seen is within at apart (omega (arith, less)) ∙ seen.others m (λ e. omega (arith, less, e));
    }

    pub settled_where : (passed next member : ℕ) (odd : Bool) → IsSeen uses runs p passed member odd → IsNextRing uses runs p passed next → next ≡ length runs → IsWhere uses p (if odd then Member member else Nowhere)
    settled_where passed next member true seen is end = (is.clear, last_holds passed next member true seen is end refl)
    settled_where passed next member false seen is end = (is.clear, none_holds passed next member false seen is end refl)
