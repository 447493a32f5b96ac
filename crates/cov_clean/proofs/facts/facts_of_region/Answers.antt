use Rattle.std.proofs.Common.{refl, ◌∙◌, length, get_or, pos, FitsSigned, rules}
use mir.Syntax.{w128}
use Rattle.std.proofs.lemmas.Int.{to_z-of_z}
use Rattle.region_owners.specs.Owner.{facts_of}
use Rattle.cov_clean.proofs.Candidates.{same_facts, area_is, label_within, candidates_more, candidates_all, candidates_ascend}
use Rattle.cov_clean.proofs.facts.facts_of_region.Goals as goal

pub bounds-areas-member : goal.bounds-areas-member
bounds-areas-member c =
    let (o, is) = c.label-label.ensures.some in
    label_within c.args.labels.now c.label-label.result.now c.args.region (length c.args.areas.now) o is c.label-label.ensures.label c.requires.members c.loop-member.member-index c.loop-member-test.true

pub loop-member-preserved : goal.loop-member-preserved
loop-member-preserved c = λ o is.
    let label = c.label-label.result.now in
    let k = c.loop-member.member-index in
    let i = get_or label k 0 in
    let within = label_within c.args.labels.now label c.args.region (length c.args.areas.now) o is c.label-label.ensures.label c.requires.members k c.loop-member-test.true in
    let fits : FitsSigned w128 (get_or c.args.areas.now i (pos 0)) = search rules in
    let area = to_z-of_z w128 (get_or c.args.areas.now i (pos 0)) fits ∙ area_is c.args.labels.now c.args.areas.now o is c.requires.areas i (pos 0) within in
    candidates_more o c.args.region label k i c.loop-member.candidates.items c.push.new.self.items _ c.loop-member-test.true refl (c.loop-member.invariant o is) c.in_ok-push.ensures.items
    (λ j. record { member = i; area2 = area j; border = c.border.ensures o is j })

pub invariant_of-result : goal.invariant_of-result
invariant_of-result c =
    let (o, is) = c.label-label.ensures.some in (
      candidates_ascend o c.args.region c.loop-member.candidates.items
          (candidates_all o c.args.region c.label-label.result.now c.loop-member.member-index c.loop-member.candidates.items c.loop-member-test.false (c.label-label.ensures.label o is) (c.loop-member.invariant o is)),
      tt,
    )

pub returns : goal.returns
returns c = λ o is.
    let fits : FitsSigned w128 c.region_area2.result = search rules in
    same_facts _ (facts_of o c.args.region)
    (candidates_all o c.args.region c.label-label.result.now c.loop-member.member-index c.loop-member.candidates.items c.loop-member-test.false (c.label-label.ensures.label o is) (c.loop-member.invariant o is))
    (to_z-of_z w128 c.region_area2.result fits ∙ c.region_area2.ensures o is)
