use Rattle.fault_map.proofs.OneMap.{one_map}
use Rattle.fault_map.proofs.laws.one_map_law.Goals as goal

pub returns : goal.returns
returns c = one_map
