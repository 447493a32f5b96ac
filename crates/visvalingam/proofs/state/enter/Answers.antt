use Rattle.std.proofs.Common.{◌≡◌, sym, ◌∙◌, subst, ℕ, Option, true≢false, ◌∷◌}
use Rattle.std.proofs.lemmas.List.Sorted.{Contains-permutation}
use Rattle.visvalingam.specs.Chains.{IsAnswerIn}
use Rattle.visvalingam.specs.State.{IsAllowed}
use Rattle.visvalingam.specs.declared.corner.Corner.{Corner}
use Rattle.visvalingam.proofs.Ready.{there, here_first}
use Rattle.visvalingam.proofs.Spots.{none_open, open_size, open_allowed}
use Rattle.visvalingam.proofs.state.enter.Goals as goal

pub returns-in_default-clause-entered : goal.returns-in_default-clause-entered
returns-in_default-clause-entered c s removed q asked linked line place h =
    absurd (none_open s c.args.task.now asked removed c.args.line c.args.place
    (subst (λ (r : Option Corner). IsAnswerIn removed c.args.task.now.lines.now c.args.line c.args.place r) c.in_default.is (c.corner_at.ensures.answer removed linked)) q line place h)

pub returns-then-not-is_allowed-clause-entered : goal.returns-then-not-is_allowed-clause-entered
returns-then-not-is_allowed-clause-entered c s removed q asked linked line place h =
    let answer = subst (λ (r : Option Corner). IsAnswerIn removed c.args.task.now.lines.now c.args.line c.args.place r) c.in-Some.is (c.corner_at.ensures.answer removed linked) in
    let size = open_size s c.args.task.now asked removed c.args.line c.args.place c.in-Some.corner answer q line place h ∙ sym c.size-size.ensures in
    let allowed = subst (λ (n : ℕ). IsAllowed c.args.task.now n c.size-size.result) line (subst (λ (n : ℕ). IsAllowed c.args.task.now q.line n) size (open_allowed s c.args.task.now asked removed q h)) in
    absurd (true≢false (sym (c.is_allowed.ensures.1 allowed) ∙ c.if-not-is_allowed.true))

pub returns-clause-kept : goal.returns-clause-kept
returns-clause-kept c q has =
    Contains-permutation ((record { size = c.size-size.result; line = c.args.line; place = c.args.place }) ∷ c.args.queue.now) c.push.new.self q c.in_ok-push.ensures
    (there (record { size = c.size-size.result; line = c.args.line; place = c.args.place }) c.args.queue.now q has)

pub returns-clause-entered : goal.returns-clause-entered
returns-clause-entered c s removed q asked linked line place h =
    let answer = subst (λ (r : Option Corner). IsAnswerIn removed c.args.task.now.lines.now c.args.line c.args.place r) c.in-Some.is (c.corner_at.ensures.answer removed linked) in
    let size = open_size s c.args.task.now asked removed c.args.line c.args.place c.in-Some.corner answer q line place h ∙ sym c.size-size.ensures in
    let same : q ≡ record { size = c.size-size.result; line = c.args.line; place = c.args.place } = λ i. record { size = size i; line = line i; place = place i } in
    Contains-permutation ((record { size = c.size-size.result; line = c.args.line; place = c.args.place }) ∷ c.args.queue.now) c.push.new.self q c.in_ok-push.ensures
    (here_first (record { size = c.size-size.result; line = c.args.line; place = c.args.place }) c.args.queue.now q (sym same))
