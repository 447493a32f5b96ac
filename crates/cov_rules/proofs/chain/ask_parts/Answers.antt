-- One part more is asked, up to the first that picks.
use Rattle.std.proofs.Common.{◌≡◌, refl, ap, sym, ◌∙◌, ◌<◌, ◌≤◌, ◌+◌, length, get_or, set, arith}
use Rattle.cov_rules.specs.declared.part.Part.{Part}
use Rattle.cov_rules.proofs.Chains.{asked, asked_keeps, asked_at, asked_all, none_more, still_fixed, changed_more, part_there}
use Rattle.cov_rules.proofs.chain.ask_parts.Goals as goal

pub loop-part-preserved : goal.loop-part-preserved
loop-part-preserved c =
    let k = c.loop-part.part-index in
    let less : k < length c.args.parts.now = omega arith in
    let part : Part = get_or c.loop-part.parts k c.part-item.result in
    let at : part ≡ get_or c.loop-part.parts k part = ap (λ (d : Part). get_or c.loop-part.parts k d) c.part-item.is in
    let there = part_there (asked c.args.facts.now) c.args.parts.now c.loop-part.parts k part less c.loop-part.invariant.states at in
    record {
      states = changed_more (asked c.args.facts.now) c.args.parts.now c.loop-part.parts k part less c.loop-part.invariant.states at (set c.loop-part.parts k c.ask-place.new.self) c.ask-place.new.self c.ask-place.ensures.next refl;
      none = none_more c.args.parts.now c.args.facts.now k part c.ask-place.result less c.loop-part.invariant.none there c.ask-place.ensures.picked (sym c.is_some.ensures ∙ c.if-is_some.false);
    }

pub returns-then-is_some-clause-kind : goal.returns-then-is_some-clause-kind
returns-then-is_some-clause-kind c =
    let k = c.loop-part.part-index in
    let less : k < length c.args.parts.now = omega arith in
    let part : Part = get_or c.loop-part.parts k c.part-item.result in
    let at : part ≡ get_or c.loop-part.parts k part = ap (λ (d : Part). get_or c.loop-part.parts k d) c.part-item.is in
    still_fixed (asked c.args.facts.now) (asked_keeps c.args.facts.now) (k + 1) c.args.parts.now (set c.loop-part.parts k c.ask-place.new.self)
    (changed_more (asked c.args.facts.now) c.args.parts.now c.loop-part.parts k part less c.loop-part.invariant.states at (set c.loop-part.parts k c.ask-place.new.self) c.ask-place.new.self c.ask-place.ensures.next refl)

pub returns-then-is_some-clause-picked : goal.returns-then-is_some-clause-picked
returns-then-is_some-clause-picked c =
    let k = c.loop-part.part-index in
    let less : k < length c.args.parts.now = omega arith in
    let part : Part = get_or c.loop-part.parts k c.part-item.result in
    let at : part ≡ get_or c.loop-part.parts k part = ap (λ (d : Part). get_or c.loop-part.parts k d) c.part-item.is in
    let there = part_there (asked c.args.facts.now) c.args.parts.now c.loop-part.parts k part less c.loop-part.invariant.states at in
    (asked_at c.args.parts.now (set c.loop-part.parts k c.ask-place.new.self) c.args.facts.now k part c.ask-place.result less c.loop-part.invariant.none there c.ask-place.ensures.picked (sym c.is_some.ensures ∙ c.if-is_some.true)
    (changed_more (asked c.args.facts.now) c.args.parts.now c.loop-part.parts k part less c.loop-part.invariant.states at (set c.loop-part.parts k c.ask-place.new.self) c.ask-place.new.self c.ask-place.ensures.next refl)).0

pub returns-then-is_some-clause-next : goal.returns-then-is_some-clause-next
returns-then-is_some-clause-next c =
    let k = c.loop-part.part-index in
    let less : k < length c.args.parts.now = omega arith in
    let part : Part = get_or c.loop-part.parts k c.part-item.result in
    let at : part ≡ get_or c.loop-part.parts k part = ap (λ (d : Part). get_or c.loop-part.parts k d) c.part-item.is in
    let there = part_there (asked c.args.facts.now) c.args.parts.now c.loop-part.parts k part less c.loop-part.invariant.states at in
    (asked_at c.args.parts.now (set c.loop-part.parts k c.ask-place.new.self) c.args.facts.now k part c.ask-place.result less c.loop-part.invariant.none there c.ask-place.ensures.picked (sym c.is_some.ensures ∙ c.if-is_some.true)
    (changed_more (asked c.args.facts.now) c.args.parts.now c.loop-part.parts k part less c.loop-part.invariant.states at (set c.loop-part.parts k c.ask-place.new.self) c.ask-place.new.self c.ask-place.ensures.next refl)).1

pub returns-clause-kind : goal.returns-clause-kind
returns-clause-kind c = still_fixed (asked c.args.facts.now) (asked_keeps c.args.facts.now) c.loop-part.part-index c.args.parts.now c.loop-part.parts c.loop-part.invariant.states

pub returns-clause-picked : goal.returns-clause-picked
returns-clause-picked c =
    let all : length c.args.parts.now ≤ c.loop-part.part-index = omega arith in
    (asked_all c.args.parts.now c.loop-part.parts c.args.facts.now c.loop-part.part-index all c.loop-part.invariant.none c.loop-part.invariant.states).0

pub returns-clause-next : goal.returns-clause-next
returns-clause-next c =
    let all : length c.args.parts.now ≤ c.loop-part.part-index = omega arith in
    (asked_all c.args.parts.now c.loop-part.parts c.args.facts.now c.loop-part.part-index all c.loop-part.invariant.none c.loop-part.invariant.states).1
