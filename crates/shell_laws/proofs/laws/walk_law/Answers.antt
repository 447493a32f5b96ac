use Rattle.shell_laws.proofs.Outside.{next_outside}
use Rattle.shell_laws.proofs.Reversed.{walk_ring}
use Rattle.shell_laws.proofs.laws.walk_law.Goals as goal

pub returns-clause-outside : goal.returns-clause-outside
returns-clause-outside c = next_outside

pub returns-clause-ring : goal.returns-clause-ring
returns-clause-ring c = walk_ring
