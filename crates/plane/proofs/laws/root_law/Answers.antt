use Rattle.plane.proofs.Roots.{root_law}
use Rattle.plane.proofs.laws.root_law.Goals as goal

pub returns : goal.returns
returns c = root_law
