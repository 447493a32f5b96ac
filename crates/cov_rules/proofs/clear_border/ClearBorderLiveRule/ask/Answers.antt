use Rattle.std.proofs.Common.{◌≡◌, ◌∙◌, ap, sym, pos, length, List, vec_len, arith, rules}
use Rattle.region_owners.specs.Facts.{RegionFacts}
use Rattle.region_owners.specs.declared.candidate.Candidate.{Candidate}
use Rattle.cov_rules.specs.ClearBorder.{is_clear}
use Rattle.cov_rules.proofs.Clear.{longest_within, clear_then, clear_else}
use Rattle.cov_rules.proofs.clear_border.ClearBorderLiveRule.ask.Goals as goal

pub index-requires : goal.index-requires
index-requires c =
    let items = c.facts.inside.candidates.items in
    let first : Candidate = record { member = 0; area2 = pos 0; border = 0 } in
    let within = longest_within c.args.facts.now c.requires.some items c.choose-place.result first (ap (λ (f : RegionFacts). f.candidates) c.facts.view_is) c.choose-place.ensures.picked in
    let long : vec_len c.facts.inside.candidates ≡ length items = search rules in
    omega (arith, within, long)

pub returns-then-is_alone-clause-picked : goal.returns-then-is_alone-clause-picked
returns-then-is_alone-clause-picked c =
    let items = c.facts.inside.candidates.items in
    clear_then c.args.facts.now c.requires.some items c.choose-place.result c.index.result.now (ap (λ (f : RegionFacts). f.candidates) c.facts.view_is) c.choose-place.ensures.picked c.index.ensures
    (ap (λ (xs : List Candidate). is_clear xs c.index.result.now) (sym c.deref.ensures.value) ∙ sym c.is_alone.ensures ∙ c.if-is_alone.true)

pub returns-else-is_alone-clause-picked : goal.returns-else-is_alone-clause-picked
returns-else-is_alone-clause-picked c =
    let items = c.facts.inside.candidates.items in
    clear_else c.args.facts.now c.requires.some items c.choose-place.result c.index.result.now (ap (λ (f : RegionFacts). f.candidates) c.facts.view_is) c.choose-place.ensures.picked c.index.ensures
    (ap (λ (xs : List Candidate). is_clear xs c.index.result.now) (sym c.deref.ensures.value) ∙ sym c.is_alone.ensures ∙ c.if-is_alone.false)
