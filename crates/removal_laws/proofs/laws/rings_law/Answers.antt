use Rattle.removal_laws.proofs.Members.{coverage_exchange, coverage_valid}
use Rattle.removal_laws.proofs.laws.rings_law.Goals as goal

pub returns-clause-exchange : goal.returns-clause-exchange
returns-clause-exchange c = coverage_exchange

pub returns-clause-valid : goal.returns-clause-valid
returns-clause-valid c = coverage_valid
