use Rattle.removal_laws.proofs.Steps.{coverage_keeps, ring_without_more, coverage_without_more, step}
use Rattle.removal_laws.proofs.laws.steps_law.Goals as goal

pub returns-clause-keeps : goal.returns-clause-keeps
returns-clause-keeps c = coverage_keeps

pub returns-clause-one_more : goal.returns-clause-one_more
returns-clause-one_more c = ring_without_more

pub returns-clause-coverage : goal.returns-clause-coverage
returns-clause-coverage c = coverage_without_more

pub returns-clause-step : goal.returns-clause-step
returns-clause-step c = step
