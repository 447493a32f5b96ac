use Rattle.region_owners.proofs.Picks.{picks}
use Rattle.region_owners.proofs.laws.pick_law.Goals as goal

pub returns : goal.returns
returns c = picks
