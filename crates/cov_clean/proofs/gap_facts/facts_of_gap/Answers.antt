-- The facts of a gap are those of the definition.
use mir.Syntax.{w128}
use Rattle.std.proofs.Common.{◌≡◌, sym, ◌∙◌, ap, subst, ℕ, ◌<◌, List, length, map, pos, FitsSigned, rules, arith}
use Rattle.std.specs.Prelude.{All}
use Rattle.std.proofs.lemmas.Int.{to_z-of_z}
use Rattle.gap_replay.specs.Replay.{gap_facts}
use Rattle.owner_label.specs.Labelled.{owner_in}
use Rattle.owner_label.specs.OwnedSides.{owned_length}
use Rattle.owner_label.specs.declared.owned_side.OwnedSide.{OwnedSide}
use Rattle.cov_clean.specs.Runs.{AreRuns, run_candidate}
use Rattle.cov_clean.proofs.Candidates.{area_is, same_facts}
use Rattle.cov_clean.proofs.Filling.{sides_long}
use Rattle.cov_clean.proofs.GapFacts.{gap_candidates_are, run_candidates_ascend, runs_below}
use Rattle.cov_clean.proofs.gap_facts.facts_of_gap.Goals as goal

pub runs_by_member-requires-clause-long : goal.runs_by_member-requires-clause-long
runs_by_member-requires-clause-long c = sides_long c.args.owners.now c.in_ok-sides.sides.items c.in_ok-sides.ensures.each

pub runs_by_member-requires-clause-short : goal.runs_by_member-requires-clause-short
runs_by_member-requires-clause-short c = λ k d within. (c.in_ok-sides.ensures.each k d within).short

pub candidates_of_runs-requires : goal.candidates_of_runs-requires
candidates_of_runs-requires c =
    subst (λ (rs : List OwnedSide). All (λ (run : OwnedSide). run.member < length c.args.areas.now) rs) (sym c.deref.ensures.value)
    (runs_below c.args.owners.now c.in_ok-sides.sides.items (length c.args.areas.now) c.in_ok-sides.ensures.each c.requires.below c.in_ok-runs.runs.items c.in_ok-runs.ensures)

pub invariant_of-result : goal.invariant_of-result
invariant_of-result c = (
  run_candidates_ascend (owned_length c.in_ok-sides.sides.items) c.args.areas.now c.in_ok-runs.runs.items c.in_ok-runs.ensures c.in_ok-candidates.candidates.items
      (c.in_ok-candidates.ensures ∙ ap (map (run_candidate c.args.areas.now)) c.deref.ensures.value),
  tt,
)

pub returns : goal.returns
returns c = λ o is count.
    (let fits : FitsSigned w128 c.region_area2.result = search rules in
    let runs : List OwnedSide = c.in_ok-runs.runs.items in
    let owners = owner_in c.args.owners.now in
    let made : c.in_ok-candidates.candidates.items ≡ map (run_candidate c.args.areas.now) runs = c.in_ok-candidates.ensures ∙ ap (map (run_candidate c.args.areas.now)) c.deref.ensures.value in
    let are = subst (λ (f : ℕ → ℕ). AreRuns f runs) (λ j i. c.in_ok-sides.ensures.borders o i is j) c.in_ok-runs.ensures in
    let below = runs_below c.args.owners.now c.in_ok-sides.sides.items (length c.args.areas.now) c.in_ok-sides.ensures.each c.requires.below runs c.in_ok-runs.ensures in
    let members : All (λ (run : OwnedSide). run.member < o.members) runs = subst (λ (n : ℕ). All (λ (run : OwnedSide). run.member < n) runs) (sym count) below in
    same_facts _ (gap_facts o owners c.args.gap)
    (gap_candidates_are o owners c.args.gap runs are members c.args.areas.now
    (λ i less. area_is c.args.labels.now c.args.areas.now o is c.requires.areas i (pos 0) (omega (arith, less, count)))
    c.in_ok-candidates.candidates.items made)
    (to_z-of_z w128 c.region_area2.result fits ∙ c.region_area2.ensures o is))
