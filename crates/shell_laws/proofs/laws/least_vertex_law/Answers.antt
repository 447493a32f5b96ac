use Rattle.shell_laws.proofs.LeastVertex.{told_at_least}
use Rattle.shell_laws.proofs.laws.least_vertex_law.Goals as goal

pub returns : goal.returns
returns c = told_at_least
