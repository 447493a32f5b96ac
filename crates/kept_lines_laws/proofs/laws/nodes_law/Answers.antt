use Rattle.kept_lines_laws.proofs.Kept.{nodes}
use Rattle.kept_lines_laws.proofs.laws.nodes_law.Goals as goal

pub returns : goal.returns
returns c = nodes
