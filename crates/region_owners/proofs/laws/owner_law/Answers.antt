use Rattle.region_owners.proofs.Owners.{owner_unique, owners_exist, no_width}
use Rattle.region_owners.proofs.laws.owner_law.Goals as goal

pub returns-clause-one : goal.returns-clause-one
returns-clause-one g c = owner_unique

pub returns-clause-exist : goal.returns-clause-exist
returns-clause-exist g c = owners_exist

pub returns-clause-no_width : goal.returns-clause-no_width
returns-clause-no_width g c = no_width
