use Rattle.region_owners.proofs.Clearances.{clearance_unique, narrow_is}
use Rattle.region_owners.proofs.laws.clearance_law.Goals as goal

pub returns-clause-one : goal.returns-clause-one
returns-clause-one c = clearance_unique

pub returns-clause-narrow : goal.returns-clause-narrow
returns-clause-narrow c = narrow_is
