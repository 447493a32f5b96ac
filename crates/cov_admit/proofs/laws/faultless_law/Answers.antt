use Rattle.cov_admit.proofs.Admitted.{faultless_valid}
use Rattle.cov_admit.proofs.Refused.{valid_faultless}
use Rattle.cov_admit.proofs.laws.faultless_law.Goals as goal

pub returns-clause-faultless : goal.returns-clause-faultless
returns-clause-faultless c = faultless_valid

pub returns-clause-valid : goal.returns-clause-valid
returns-clause-valid c = valid_faultless
