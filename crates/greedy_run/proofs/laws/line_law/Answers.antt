use Rattle.greedy_run.proofs.Walks.{edge_line, vertex_line}
use Rattle.greedy_run.proofs.laws.line_law.Goals as goal

pub returns-clause-edge : goal.returns-clause-edge
returns-clause-edge c = edge_line

pub returns-clause-vertex : goal.returns-clause-vertex
returns-clause-vertex c = vertex_line
