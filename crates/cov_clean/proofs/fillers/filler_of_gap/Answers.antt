-- The rule picks one of the candidates, which is the filler.
use Rattle.std.proofs.Common.{◌≡◌, ◌∙◌, ap, length, rules, vec_len, arith}
use Rattle.region_owners.specs.Facts.{RegionFacts}
use Rattle.gap_replay.specs.Replay.{gap_candidates, gap_facts}
use Rattle.owner_label.specs.Labelled.{owner_in}
use Rattle.cov_clean.proofs.LesserGaps.{pick_fits, some_candidates}
use Rattle.cov_clean.proofs.SideOwners.{picked_member}
use Rattle.cov_clean.proofs.fillers.filler_of_gap.Goals as goal

pub choose-place-requires : goal.choose-place-requires
choose-place-requires g c =
    let h = c.requires.some in
    record { some = some_candidates h.overlay (owner_in c.args.owners.now) c.args.gap c.in_ok-facts.facts (c.in_ok-facts.ensures h.overlay h.is_overlay h.count) h.some }

pub index-requires : goal.index-requires
index-requires g c =
    let h = c.requires.some in
    let some = some_candidates h.overlay (owner_in c.args.owners.now) c.args.gap c.in_ok-facts.facts (c.in_ok-facts.ensures h.overlay h.is_overlay h.count) h.some in
    let items = c.facts.inside.candidates.items in
    let within = pick_fits g.R.MergeRule.rule g.met.R.MergeRule.lawful (g.R.MergeRule.state c.args.rule.now) c.in_ok-facts.facts items c.choose-place.result
    (ap (λ (f : RegionFacts). f.candidates) c.facts.view_is) some c.choose-place.ensures.picked in
    let long : vec_len c.facts.inside.candidates ≡ length items = search rules in
    omega (arith, within, long)

pub returns-clause-picked : goal.returns-clause-picked
returns-clause-picked g c = λ o is count.
    (let h = c.requires.some in
    let owners = owner_in c.args.owners.now in
    let gap = c.args.gap in
    let rule = g.R.MergeRule.rule in
    let now = g.R.MergeRule.state c.args.rule.now in
    let facts = c.in_ok-facts.facts in
    let items = c.facts.inside.candidates.items in
    let some = some_candidates h.overlay owners gap facts (c.in_ok-facts.ensures h.overlay h.is_overlay h.count) h.some in
    let within = pick_fits rule g.met.R.MergeRule.lawful now facts items c.choose-place.result (ap (λ (f : RegionFacts). f.candidates) c.facts.view_is) some c.choose-place.ensures.picked in
    let same : facts ≡ gap_facts o owners gap = c.in_ok-facts.ensures o is count in
    picked_member items (gap_candidates o owners gap) c.choose-place.result (rule.pick now (gap_facts o owners gap)) c.index.result.now (ap (λ (f : RegionFacts). f.candidates) (c.facts.view_is ∙ same))
    (c.choose-place.ensures.picked ∙ ap (rule.pick now) same) within c.index.ensures)

pub returns-clause-state : goal.returns-clause-state
returns-clause-state g c = λ o is count. (c.choose-place.ensures.next ∙ ap (g.R.MergeRule.rule.next (g.R.MergeRule.state c.args.rule.now)) (c.in_ok-facts.ensures o is count))
