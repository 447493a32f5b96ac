use Rattle.region_owners.proofs.NearestOwn.{room_by_own, own_search}
use Rattle.region_owners.proofs.laws.room_law.Goals as goal

pub returns-clause-room : goal.returns-clause-room
returns-clause-room c = room_by_own

pub returns-clause-search : goal.returns-clause-search
returns-clause-search c = own_search
