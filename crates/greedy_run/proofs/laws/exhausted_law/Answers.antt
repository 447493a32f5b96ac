use Rattle.greedy_run.proofs.OneRun.{own_simplification, nothing_left}
use Rattle.greedy_run.proofs.laws.exhausted_law.Goals as goal

pub returns-clause-own : goal.returns-clause-own
returns-clause-own c = own_simplification

pub returns-clause-nothing : goal.returns-clause-nothing
returns-clause-nothing c = nothing_left
