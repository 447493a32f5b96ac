use Rattle.plane.proofs.Over.{over-meets_ray}
use Rattle.plane.proofs.laws.over_law.Goals as goal

pub returns : goal.returns
returns c = over-meets_ray
