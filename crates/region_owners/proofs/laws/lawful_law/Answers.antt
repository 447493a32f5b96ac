use Rattle.region_owners.proofs.Held.{lawful}
use Rattle.region_owners.proofs.laws.lawful_law.Goals as goal

pub returns : goal.returns
returns g c = lawful
