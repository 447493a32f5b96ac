use Rattle.greedy_run.proofs.Walks.{bound, walk_done, least_of_loop}
use Rattle.greedy_run.proofs.laws.walk_law.Goals as goal

pub returns-clause-bound : goal.returns-clause-bound
returns-clause-bound c = bound

pub returns-clause-done : goal.returns-clause-done
returns-clause-done c = walk_done

pub returns-clause-least : goal.returns-clause-least
returns-clause-least c = least_of_loop
