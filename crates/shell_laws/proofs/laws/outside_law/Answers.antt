use Rattle.shell_laws.proofs.Outside.{outside_kept}
use Rattle.shell_laws.proofs.laws.outside_law.Goals as goal

pub returns : goal.returns
returns c = outside_kept
