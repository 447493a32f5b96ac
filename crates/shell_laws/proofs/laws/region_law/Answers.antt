use Rattle.shell_laws.proofs.RegionPart.{region_part}
use Rattle.shell_laws.proofs.laws.region_law.Goals as goal

pub returns : goal.returns
returns c = region_part
