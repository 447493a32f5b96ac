use Rattle.std.proofs.Common.{◌+◌}
use Rattle.clearance_laws.proofs.Near.{handed_down, handed_down-far}
use Rattle.clearance_laws.proofs.laws.handing_down_law.Goals as goal

pub returns-clause-room : goal.returns-clause-room
returns-clause-room c = λ c q r s w e f near none far room. handed_down c q s (r + 1) w e f near none far room

pub returns-clause-far : goal.returns-clause-far
returns-clause-far c = λ c q r s n m e f near none far positive is_far. handed_down-far c q s (r + 1) n m e f near none far positive is_far
