use Rattle.distance_laws.proofs.Reach.{doubled_room, reach_is}
use Rattle.distance_laws.proofs.laws.reach_law.Goals as goal

pub returns-clause-doubled : goal.returns-clause-doubled
returns-clause-doubled c = doubled_room

pub returns-clause-reach : goal.returns-clause-reach
returns-clause-reach c = reach_is
