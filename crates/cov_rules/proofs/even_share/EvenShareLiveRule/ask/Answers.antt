use Rattle.std.proofs.Common.{◌∙◌, ap, sym, get_or, List, rules}
use Rattle.std.proofs.lemmas.Int.{to_z-of_z}
use mir.Syntax.{w128}
use mir.Val.{SFits}
use Rattle.region_owners.specs.Facts.{RegionFacts}
use Rattle.region_owners.specs.declared.candidate.Candidate.{Candidate}
use Rattle.cov_rules.proofs.Shares.{picked_is, next_is}
use Rattle.cov_rules.proofs.even_share.EvenShareLiveRule.ask.Goals as goal

pub returns-clause-picked : goal.returns-clause-picked
returns-clause-picked c =
    picked_is c.args.self.now c.args.facts.now c.deref.result.now c.least-place.result (c.deref.ensures.value ∙ ap (λ (f : RegionFacts). f.candidates) c.facts.view_is) c.least-place.ensures.place c.least-place.ensures.least

pub returns-clause-next : goal.returns-clause-next
returns-clause-next c =
    let fits : SFits w128 c.facts.inside.region_area2 = search rules in
    let grown = simp to_z-of_z at c.add.ensures in
    next_is c.args.self.now c.add.new.self c.args.facts.now c.deref.result.now c.least-place.result c.index.result.now c.facts.inside.region_area2 (c.deref.ensures.value ∙ ap (λ (f : RegionFacts). f.candidates) c.facts.view_is)
    c.least-place.ensures.place c.least-place.ensures.least
    (c.index.ensures ∙ ap (λ (xs : List Candidate). get_or xs c.least-place.result c.index.result.now) (sym c.deref.ensures.value))
    (ap (λ (f : RegionFacts). f.region_area2) c.facts.view_is) grown
