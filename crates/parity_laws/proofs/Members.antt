-- A member holds a point where an odd number of its runs does.
use Rattle.std.proofs.Common.{◌≡◌, refl, sym, ◌∙◌, ap, ap₂, ℕ, ◌+◌, ◌-◌, ◌<◌, ◌%◌, ◌==◌, Bool, false, ◌&&◌, cond, List, [], ◌∷◌, ◌++◌, length, drop, All, Contains, count_by, length-take, arith, inl, inr}
use Rattle.std.specs.Prelude.{slice_range}
use Rattle.std.proofs.lemmas.Bool.{cases_Bool}
use Rattle.std.proofs.lemmas.List.{get_or-drop, get_or-take, drop_all}
use Rattle.std.proofs.lemmas.List.Elements.{All-contains, All-head, All-tail}
use Rattle.std.proofs.lemmas.List.Folds.{drop_split}
use Rattle.std.proofs.lemmas.List.Sums.{sum_by-append, sum_by-cons}
use Rattle.cov_types.specs.Rings.{AreInRow, IsRing}
use Rattle.cov_types.specs.declared.coord.Coord.{Coord}
use Rattle.cov_types.specs.declared.edge_use.EdgeUse.{EdgeUse}
use Rattle.cov_types.specs.declared.ring_run.RingRun.{RingRun}
use Rattle.parity_laws.specs.Paths.{differ}
use Rattle.parity_laws.specs.Runs.{run_holds, runs_hold}
use Rattle.parity_laws.proofs.Middle.{counts_alike}
use Rattle.parity_laws.proofs.Parts.{odd_sum, odd_one}
use Rattle.plane.specs.Parity.{member_holds}
use Rattle.plane.specs.Point.{Point}
use Rattle.plane.specs.Ray.{is_over}

-- the use is the member's and is over the point
abbrev counts_for : ℕ → Point → EdgeUse → Bool
counts_for member p u = (u.member == member) && is_over u.seg p

count_none : (uses : List EdgeUse) → count_by (λ (u : EdgeUse). false) uses ≡ 0
count_none [] = refl
count_none (u ∷ uses) = omega (arith, sum_by-cons (λ (v : EdgeUse). 0) u uses, count_none uses)

-- of uses that are all one member's, a member counts all or none
own_uses : (n member : ℕ) (p : Point) (uses : List EdgeUse) → All (λ (u : EdgeUse). u.member ≡ n) uses
    → (count_by (counts_for member p) uses % 2 == 1) ≡ ((n == member) && (count_by (λ u. is_over u.seg p) uses % 2 == 1))
own_uses n member p uses own =
    let over : EdgeUse → Bool = λ u. is_over u.seg p in
    let owner : (u : EdgeUse) → Contains uses u → u.member ≡ n = λ u i. All-contains (λ (v : EdgeUse). v.member ≡ n) uses u own i in
    elim (cases_Bool (n == member)) [
      | inl same ↦
          ap (λ k. k % 2 == 1) (counts_alike (counts_for member p) over uses (λ u i. ap (λ k. (k == member) && over u) (owner u i) ∙ ap (λ b. b && over u) same))
          ∙ ap (λ b. b && (count_by over uses % 2 == 1)) (sym same)
      | inr other ↦
          ap (λ k. k % 2 == 1)
          (counts_alike (counts_for member p) (λ u. false) uses (λ u i. ap (λ k. (k == member) && over u) (owner u i) ∙ ap (λ b. b && over u) other) ∙ count_none uses)
          ∙ ap (λ b. b && (count_by over uses % 2 == 1)) (sym other)
    ]

-- the uses of a run are its member's
run_owner : (uses : List EdgeUse) (starts : List Coord) (run : RingRun) → IsRing uses starts run → All (λ (u : EdgeUse). u.member ≡ run.member) (slice_range uses run.from run.to)
run_owner uses starts run ring k d within =
    let n = run.to - run.from in
    let inside : k < n = omega (arith, within, length-take n (drop run.from uses)) in
    ap (λ (u : EdgeUse). u.member) (get_or-take n (drop run.from uses) k d inside ∙ get_or-drop run.from uses k d)
    ∙ ring.members (run.from + k) d (omega arith) (omega arith)

runs_from_place : (uses : List EdgeUse) (starts : List Coord) (i member : ℕ) (p : Point) (runs : List RingRun) → AreInRow i runs (length uses) → All (IsRing uses starts) runs
    → (count_by (counts_for member p) (drop i uses) % 2 == 1) ≡ runs_hold uses runs member p
runs_from_place uses starts i member p [] row rings = ap (λ l. count_by (counts_for member p) l % 2 == 1) (drop_all i uses (omega (arith, row)))
runs_from_place uses starts i member p (run ∷ runs) row rings =
    let (at, more, rest) = row in
    let ring = All-head (IsRing uses starts) run runs rings in
    let counted : EdgeUse → ℕ = λ u. cond (counts_for member p u) 1 0 in
    let held : RingRun → Bool = λ r. (r.member == member) && run_holds uses p r in
    let part = slice_range uses run.from run.to in
    let split : drop i uses ≡ part ++ drop run.to uses = ap (λ k. drop k uses) (sym at) ∙ drop_split uses run.from run.to (omega (arith, at, more)) in
    let later = runs_from_place uses starts run.to member p runs rest (All-tail (IsRing uses starts) run runs rings) in
    ap (λ l. count_by (counts_for member p) l % 2 == 1) split
    ∙ ap (λ n. n % 2 == 1) (sum_by-append counted part (drop run.to uses))
    ∙ odd_sum (count_by (counts_for member p) part) (count_by (counts_for member p) (drop run.to uses))
    ∙ ap₂ differ (own_uses run.member member p part (run_owner uses starts run ring) ∙ sym (odd_one (held run))) later
    ∙ sym (odd_sum (cond (held run) 1 0) (count_by held runs))
    ∙ ap (λ n. n % 2 == 1) (sym (sum_by-cons (λ (r : RingRun). cond (held r) 1 0) run runs))

pub member_runs : (uses : List EdgeUse) (starts : List Coord) (runs : List RingRun) (member : ℕ) (p : Point) → AreInRow 0 runs (length uses) → All (IsRing uses starts) runs
    → member_holds uses member p ≡ runs_hold uses runs member p
member_runs uses starts runs member p row rings = runs_from_place uses starts 0 member p runs row rings
