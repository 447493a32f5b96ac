use Rattle.removal_laws.proofs.Exchange.{holders_kept, valid_after}
use Rattle.removal_laws.proofs.laws.removal_law.Goals as goal

pub returns-clause-holders : goal.returns-clause-holders
returns-clause-holders c = holders_kept

pub returns-clause-valid : goal.returns-clause-valid
returns-clause-valid c = valid_after
