use Rattle.greedy_run.proofs.BorderExamples.{border_examples}
use Rattle.greedy_run.proofs.Halves.{valid_examples}
use Rattle.greedy_run.proofs.Straightening.{run_examples}
use Rattle.greedy_run.proofs.examples.instances.Goals as goal

pub returns-clause-run : goal.returns-clause-run
returns-clause-run c = run_examples

pub returns-clause-borders : goal.returns-clause-borders
returns-clause-borders c = border_examples

pub returns-clause-valid : goal.returns-clause-valid
returns-clause-valid c = valid_examples
