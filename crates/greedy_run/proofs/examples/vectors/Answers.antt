use Rattle.greedy_run.proofs.BorderExamples.{side_examples}
use Rattle.greedy_run.proofs.Computed.{state_examples}
use Rattle.greedy_run.proofs.examples.vectors.Goals as goal

pub returns-clause-states : goal.returns-clause-states
returns-clause-states c = state_examples

pub returns-clause-sides : goal.returns-clause-sides
returns-clause-sides c = side_examples
