use Rattle.plane.proofs.Examples.{over_examples, square_examples, contact_examples}
use Rattle.plane.proofs.laws.vectors.Goals as goal

pub returns-clause-over : goal.returns-clause-over
returns-clause-over c = over_examples

pub returns-clause-square : goal.returns-clause-square
returns-clause-square c = square_examples

pub returns-clause-contacts : goal.returns-clause-contacts
returns-clause-contacts c = contact_examples
