use Rattle.shell_laws.proofs.AllRings.{one_shell}
use Rattle.shell_laws.proofs.OneRing.{all_or_none}
use Rattle.shell_laws.proofs.laws.shell_law.Goals as goal

pub returns-clause-all_or_none : goal.returns-clause-all_or_none
returns-clause-all_or_none c = all_or_none

pub returns-clause-one_shell : goal.returns-clause-one_shell
returns-clause-one_shell c = one_shell
