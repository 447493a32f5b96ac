use Rattle.std.proofs.lemmas.Result.{IfOk-weaker}
use Rattle.coverage_cases.proofs.labels.live_edges.Goals as goal

pub returns-clause-even : goal.returns-clause-even
returns-clause-even c =
    let even = rw (← c.deref.ensures.value) at c.in_ok-uses.ensures.even in
    IfOk-weaker c.live.result _ _ (λ l keeps. keeps (c.in_ok-noded.ensures.even even)) c.live.ensures.even
