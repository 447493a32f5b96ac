-- One gap more, and after the last.
use Rattle.std.proofs.Common.{◌≡◌, ◌∙◌, ap, ℕ, ◌<◌, true, List, length, get_or, Option, Some, arith}
use Rattle.std.proofs.lemmas.List.{length-set, get_or_default, take_all}
use Rattle.crossing_laws.proofs.Located.{side_within}
use Rattle.gap_replay.specs.Replay.{state_after_gaps}
use Rattle.owner_label.specs.Labelled.{owner_in}
use Rattle.cov_clean.specs.Filled.{filler_by}
use Rattle.cov_clean.proofs.Filling.{filled_more, filled_all}
use Rattle.cov_clean.proofs.LesserGaps.{filler_there, asked_more}
use Rattle.cov_clean.proofs.Results.{if_err}
use Rattle.cov_clean.proofs.fillers.filled_by_rule.Goals as goal

pub index_mut-requires : goal.index_mut-requires
index_mut-requires g c =
    let region = c.requires.gaps c.loop-gap.gap-index 0 c.loop-gap-test.true in
    let within = side_within c.args.labels.now.edges (get_or c.args.gaps.now c.loop-gap.gap-index 0) region.at region.side in
    let long = c.loop-gap.invariant.long in
    let owners = c.requires.owners in
    omega (arith, within, long, owners)

pub returns-in_err-filler-clause-no_memory : goal.returns-in_err-filler-clause-no_memory
returns-in_err-filler-clause-no_memory g c = if_err c.from_residual-in_err-filler.result _ (λ o is count.
    record { count = c.loop-gap.gap-index; reached = c.in_err-filler.ensures.no_memory ∙ c.loop-gap.invariant.state o is count })

pub loop-gap-preserved : goal.loop-gap-preserved
loop-gap-preserved g c =
    let rule = g.R.MergeRule.rule in
    let start = g.R.MergeRule.state c.args.rule.now in
    let now = g.R.MergeRule.state c.loop-gap.rule in
    let gaps : List ℕ = c.args.gaps.now in
    let k = c.loop-gap.gap-index in
    let gap : ℕ = get_or gaps k 0 in
    let owners : List (Option ℕ) = c.args.owners.now in
    let inside = c.loop-gap-test.true in
    let region = c.requires.gaps k 0 inside in
    let within = side_within c.args.labels.now.edges gap region.at region.side in
    let there : gap < length owners = (let count = c.requires.owners in omega (arith, within, count)) in
    record {
      filled = λ o is many.
          (let its : Some c.in_ok-filler.filler ≡ filler_by true rule start o (owner_in owners) gaps gap =
          c.in_ok-filler.ensures.picked o is many
          ∙ filler_there rule start o (owner_in owners) gaps c.requires.ascending k 0 gap inside (λ _. gap) now (c.loop-gap.invariant.state o is many) in
          filled_more (filler_by true rule start o (owner_in owners) gaps) owners gaps k gap inside (get_or_default gaps k 0 gap inside) c.loop-gap.filled.items (c.loop-gap.invariant.filled o is many) there (Some c.in_ok-filler.filler) its);
      long = length-set c.loop-gap.filled.items gap (Some c.in_ok-filler.filler) ∙ c.loop-gap.invariant.long;
      state = λ o is many.
          (asked_more rule start o (owner_in owners) gaps c.requires.ascending k 0 gap inside (λ _. gap) now (c.loop-gap.invariant.state o is many) (g.R.MergeRule.state c.filler_of_gap.new.rule) (c.in_ok-filler.ensures.state o is many));
    }

pub returns-clause-filled : goal.returns-clause-filled
returns-clause-filled g c = λ o is many.
    (filled_all (filler_by true g.R.MergeRule.rule (g.R.MergeRule.state c.args.rule.now) o (owner_in c.args.owners.now) c.args.gaps.now) c.args.owners.now c.args.gaps.now c.loop-gap.gap-index c.loop-gap.filled.items c.loop-gap-test.false
    (c.loop-gap.invariant.filled o is many))

pub returns-clause-state : goal.returns-clause-state
returns-clause-state g c = λ o is many.
    (c.loop-gap.invariant.state o is many
    ∙ ap (state_after_gaps g.R.MergeRule.rule (g.R.MergeRule.state c.args.rule.now) o (owner_in c.args.owners.now)) (take_all c.loop-gap.gap-index c.args.gaps.now c.loop-gap-test.false))
