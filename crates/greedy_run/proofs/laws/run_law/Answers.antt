use Rattle.greedy_run.proofs.OneRun.{one_next, one_last, one_simplified}
use Rattle.greedy_run.proofs.laws.run_law.Goals as goal

pub returns-clause-next : goal.returns-clause-next
returns-clause-next c = one_next

pub returns-clause-last : goal.returns-clause-last
returns-clause-last c = one_last

pub returns-clause-simplified : goal.returns-clause-simplified
returns-clause-simplified c = one_simplified
