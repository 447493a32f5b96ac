use Rattle.std.proofs.Common.{sym, subst, List, Option, Vec, Global}
use Rattle.visvalingam.specs.Chains.{AreAllLinked}
use Rattle.visvalingam.specs.declared.chains.Links.{Links}
use Rattle.visvalingam.proofs.state.State.enter_again.Goals as goal

pub returns-clause-kept : goal.returns-clause-kept
returns-clause-kept c q has = c.in_ok-push_all.ensures.kept q (c.in_ok-enter-2.ensures.kept q (c.in_ok-enter.ensures.kept q has))

pub returns-clause-before : goal.returns-clause-before
returns-clause-before c s removed q asked linked line place h =
    let read = subst (λ (ls : List (Vec (Option Links) Global)). AreAllLinked removed c.args.task.now.lines.now ls) (sym c.as_slice-links.ensures.value) linked in
    c.in_ok-push_all.ensures.kept q (c.in_ok-enter-2.ensures.kept q (c.in_ok-enter.ensures.entered s removed q asked read line place h))

pub returns-clause-after : goal.returns-clause-after
returns-clause-after c s removed q asked linked line place h =
    let read = subst (λ (ls : List (Vec (Option Links) Global)). AreAllLinked removed c.args.task.now.lines.now ls) (sym c.as_slice-links.ensures.value) linked in
    c.in_ok-push_all.ensures.kept q (c.in_ok-enter-2.ensures.entered s removed q asked read line place h)
