use Rattle.region_owners.proofs.Held.{ordered}
use Rattle.region_owners.proofs.laws.candidate_law.Goals as goal

pub returns : goal.returns
returns c = ordered
