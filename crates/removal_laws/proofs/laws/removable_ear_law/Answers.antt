use Rattle.removal_laws.proofs.Removable.{ear_of}
use Rattle.removal_laws.proofs.laws.removable_ear_law.Goals as goal

pub returns : goal.returns
returns c = ear_of
