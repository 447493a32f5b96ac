use Rattle.region_owners.proofs.Held.{held_owner}
use Rattle.region_owners.proofs.Neighbours.{gap_neighbour}
use Rattle.region_owners.proofs.Owners.{owner_below}
use Rattle.region_owners.proofs.laws.owned_law.Goals as goal

pub returns-clause-held : goal.returns-clause-held
returns-clause-held g c = held_owner

pub returns-clause-gap : goal.returns-clause-gap
returns-clause-gap g c = gap_neighbour

pub returns-clause-below : goal.returns-clause-below
returns-clause-below g c = owner_below
