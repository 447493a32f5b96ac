use Rattle.removal_laws.proofs.Inner.{inner}
use Rattle.removal_laws.proofs.laws.inner_law.Goals as goal

pub returns : goal.returns
returns c = inner
