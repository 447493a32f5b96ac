use Rattle.owner_label.proofs.Labelling.{toggled_below, one_label, outer_empty}
use Rattle.owner_label.proofs.laws.label_law.Goals as goal

pub returns-clause-toggle : goal.returns-clause-toggle
returns-clause-toggle c = toggled_below

pub returns-clause-one : goal.returns-clause-one
returns-clause-one c = one_label

pub returns-clause-outer : goal.returns-clause-outer
returns-clause-outer c = outer_empty
