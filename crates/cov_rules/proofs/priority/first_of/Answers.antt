-- One member more, and the last.
use Rattle.std.proofs.Common.{◌∙◌, sym, refl, get_or}
use Rattle.cov_rules.proofs.Orders.{none_more, found_at, none_at_all}
use Rattle.cov_rules.proofs.priority.first_of.Goals as goal

pub returns-then-is_some : goal.returns-then-is_some
returns-then-is_some c =
    let order = c.args.order.now in
    let k = c.loop-member.member-index in
    found_at order c.args.facts.now k (get_or order k 0) c.place_of-place.result c.loop-member-test.true c.loop-member.invariant refl c.place_of-place.ensures (sym c.is_some.ensures ∙ c.if-is_some.true)

pub loop-member-preserved : goal.loop-member-preserved
loop-member-preserved c =
    let order = c.args.order.now in
    let k = c.loop-member.member-index in
    none_more order c.args.facts.now k (get_or order k 0) c.place_of-place.result c.loop-member-test.true c.loop-member.invariant refl c.place_of-place.ensures (sym c.is_some.ensures ∙ c.if-is_some.false)

pub returns : goal.returns
returns c = none_at_all c.args.order.now c.args.facts.now c.loop-member.member-index c.loop-member-test.false c.loop-member.invariant
