use Rattle.std.proofs.lemmas.Result.{IfOk-weaker}
use Rattle.cov_valid.proofs.corners.is_last_or_faultless.Goals as goal

pub returns-then-begin_alike-clause-faultless : goal.returns-then-begin_alike-clause-faultless
returns-then-begin_alike-clause-faultless c = IfOk-weaker c.is_faultless.result _ _ (λ told faultless is same. faultless is) c.is_faultless.ensures.faultless
