use Rattle.removal_laws.proofs.Bridge.{free_ends}
use Rattle.removal_laws.proofs.laws.free_ends_law.Goals as goal

pub returns : goal.returns
returns c = free_ends
