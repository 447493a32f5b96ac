use Rattle.clearance_laws.proofs.Outside.{half_region, room_to_outside, stays_inside}
use Rattle.clearance_laws.proofs.laws.outside_room_law.Goals as goal

pub returns-clause-half : goal.returns-clause-half
returns-clause-half c = half_region

pub returns-clause-outside : goal.returns-clause-outside
returns-clause-outside c = room_to_outside

pub returns-clause-inside : goal.returns-clause-inside
returns-clause-inside c = stays_inside
