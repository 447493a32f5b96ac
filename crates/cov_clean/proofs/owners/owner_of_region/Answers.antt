use Rattle.std.proofs.Common.{◌≡◌, ◌∙◌, ap, length, rules, vec_len, arith}
use Rattle.arrangement.specs.Overlay.{label_of}
use Rattle.region_owners.specs.Candidates.{candidates_of}
use Rattle.region_owners.specs.Facts.{RegionFacts}
use Rattle.region_owners.specs.Owner.{facts_of}
use Rattle.cov_clean.proofs.Candidates.{candidates_count}
use Rattle.cov_clean.proofs.SideOwners.{pick_within, picked_member, several}
use Rattle.cov_clean.proofs.owners.owner_of_region.Goals as goal

pub choose-place-requires : goal.choose-place-requires
choose-place-requires g c =
    let (o, is) = c.label.ensures.some in
    let count = candidates_count o c.args.region c.label.result.now c.in_ok-facts-in_default.facts (c.label.ensures.label o is) (c.in_ok-facts-in_default.ensures o is) in
    record { some = omega (arith, count, c.in_default.len_at_least) }

pub index-requires : goal.index-requires
index-requires g c =
    let (o, is) = c.label.ensures.some in
    let facts = c.in_ok-facts-in_default.facts in
    let items = c.facts.inside.candidates.items in
    let count = candidates_count o c.args.region c.label.result.now facts (c.label.ensures.label o is) (c.in_ok-facts-in_default.ensures o is) in
    let within = pick_within g.R.MergeRule.rule g.met.R.MergeRule.lawful (g.R.MergeRule.state c.args.rule.now) facts items (length c.label.result.now) c.choose-place.result
    (ap (λ (f : RegionFacts). f.candidates) c.facts.view_is) count c.in_default.len_at_least c.choose-place.ensures.picked in
    let long : vec_len c.facts.inside.candidates ≡ length items = search rules in
    omega (arith, within, long)

pub returns-in_ok-facts-in_default-clause-owner : goal.returns-in_ok-facts-in_default-clause-owner
returns-in_ok-facts-in_default-clause-owner g c = λ o is.
    (let facts = c.in_ok-facts-in_default.facts in
    let rule = g.R.MergeRule.rule in
    let now = g.R.MergeRule.state c.args.rule.now in
    let region = c.args.region in
    let items = c.facts.inside.candidates.items in
    let label = c.label.ensures.label o is in
    let same : facts ≡ facts_of o region = c.in_ok-facts-in_default.ensures o is in
    let count = candidates_count o region c.label.result.now facts label same in
    let within = pick_within rule g.met.R.MergeRule.lawful now facts items (length c.label.result.now) c.choose-place.result (ap (λ (f : RegionFacts). f.candidates) c.facts.view_is) count c.in_default.len_at_least c.choose-place.ensures.picked in
    picked_member items (candidates_of o region) c.choose-place.result (rule.pick now (facts_of o region)) c.index.result.now (ap (λ (f : RegionFacts). f.candidates) (c.facts.view_is ∙ same))
    (c.choose-place.ensures.picked ∙ ap (rule.pick now) same) within c.index.ensures
    ∙ several rule now o now region (label_of o region) (omega (arith, c.in_default.len_at_least, ap length label)))
