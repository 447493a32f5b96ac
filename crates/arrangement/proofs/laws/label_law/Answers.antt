use Rattle.arrangement.proofs.Labels.{sides_differ, far_free}
use Rattle.arrangement.proofs.laws.label_law.Goals as goal

pub returns-clause-sides : goal.returns-clause-sides
returns-clause-sides c = sides_differ

pub returns-clause-far : goal.returns-clause-far
returns-clause-far c = far_free
