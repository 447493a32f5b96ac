use Rattle.clearance_laws.proofs.Near.{room_near, room_bound}
use Rattle.clearance_laws.proofs.laws.lipschitz_law.Goals as goal

pub returns-clause-near : goal.returns-clause-near
returns-clause-near c = λ c q r s e near room. room_near c q s near r e room

pub returns-clause-bound : goal.returns-clause-bound
returns-clause-bound c = room_bound
