use Rattle.shell_laws.proofs.Simple.{no_vertex_twice}
use Rattle.shell_laws.proofs.Whole.{both_or_neither}
use Rattle.shell_laws.proofs.laws.part_law.Goals as goal

pub returns-clause-whole : goal.returns-clause-whole
returns-clause-whole c = both_or_neither

pub returns-clause-simple : goal.returns-clause-simple
returns-clause-simple c = no_vertex_twice
