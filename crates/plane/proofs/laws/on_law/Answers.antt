use Rattle.plane.proofs.Sweeps.{on-is}
use Rattle.plane.proofs.laws.on_law.Goals as goal

pub returns : goal.returns
returns c = on-is
