use Rattle.greedy_run.proofs.Kept.{before_is, after_is}
use Rattle.greedy_run.proofs.NoNodes.{no_node}
use Rattle.greedy_run.proofs.laws.neighbour_law.Goals as goal

pub returns-clause-before : goal.returns-clause-before
returns-clause-before c = before_is

pub returns-clause-after : goal.returns-clause-after
returns-clause-after c = after_is

pub returns-clause-no_node : goal.returns-clause-no_node
returns-clause-no_node c = no_node
