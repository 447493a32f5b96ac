-- One part more is prepared, and all are, or the first ones.
use Rattle.std.proofs.Common.{◌≡◌, refl, ap, ◌<◌, ◌≤◌, length, get_or, set, arith}
use Rattle.cov_rules.specs.declared.part.Part.{Part}
use Rattle.cov_rules.proofs.Chains.{prepared, prepared_keeps, prepared_all, prepared_some, still_fixed, changed_more, unchanged_at}
use Rattle.cov_rules.proofs.Results.{on_err}
use Rattle.cov_rules.proofs.chain.prepare_parts.Goals as goal

pub loop-part-preserved : goal.loop-part-preserved
loop-part-preserved c =
    let k = c.loop-part.part-index in
    let less : k < length c.args.parts.now = omega arith in
    let part : Part = get_or c.loop-part.parts k c.part-item.result in
    let at : part ≡ get_or c.loop-part.parts k part = ap (λ (d : Part). get_or c.loop-part.parts k d) c.part-item.is in
    changed_more (prepared c.args.members) c.args.parts.now c.loop-part.parts k part less c.loop-part.invariant at (set c.loop-part.parts k c.prepare.new.self) c.prepare.new.self c.in_ok-prepare.ensures.room refl

pub returns-in_err-prepare-clause-kind : goal.returns-in_err-prepare-clause-kind
returns-in_err-prepare-clause-kind c =
    let k = c.loop-part.part-index in
    let less : k < length c.args.parts.now = omega arith in
    let part : Part = get_or c.loop-part.parts k c.part-item.result in
    let at : part ≡ get_or c.loop-part.parts k part = ap (λ (d : Part). get_or c.loop-part.parts k d) c.part-item.is in
    still_fixed (prepared c.args.members) (prepared_keeps c.args.members) k c.args.parts.now (set c.loop-part.parts k c.prepare.new.self)
    (unchanged_at (prepared c.args.members) c.args.parts.now c.loop-part.parts k part less c.loop-part.invariant at (set c.loop-part.parts k c.prepare.new.self) c.prepare.new.self c.in_err-prepare.ensures.no_memory refl)

pub returns-in_err-prepare-clause-no_memory : goal.returns-in_err-prepare-clause-no_memory
returns-in_err-prepare-clause-no_memory c =
    let k = c.loop-part.part-index in
    let less : k < length c.args.parts.now = omega arith in
    let part : Part = get_or c.loop-part.parts k c.part-item.result in
    let at : part ≡ get_or c.loop-part.parts k part = ap (λ (d : Part). get_or c.loop-part.parts k d) c.part-item.is in
    on_err c.from_residual.result _ (prepared_some c.args.parts.now (set c.loop-part.parts k c.prepare.new.self) c.args.members k
    (unchanged_at (prepared c.args.members) c.args.parts.now c.loop-part.parts k part less c.loop-part.invariant at (set c.loop-part.parts k c.prepare.new.self) c.prepare.new.self c.in_err-prepare.ensures.no_memory refl))

pub returns-clause-kind : goal.returns-clause-kind
returns-clause-kind c = still_fixed (prepared c.args.members) (prepared_keeps c.args.members) c.loop-part.part-index c.args.parts.now c.loop-part.parts c.loop-part.invariant

pub returns-clause-room : goal.returns-clause-room
returns-clause-room c =
    let all : length c.args.parts.now ≤ c.loop-part.part-index = omega arith in
    prepared_all c.args.parts.now c.loop-part.parts c.args.members c.loop-part.part-index all c.loop-part.invariant
