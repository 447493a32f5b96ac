use Rattle.clearance_laws.proofs.Inside.{inside_is, beside_sum}
use Rattle.clearance_laws.proofs.laws.inside_law.Goals as goal

pub returns-clause-point : goal.returns-clause-point
returns-clause-point c = inside_is

pub returns-clause-edges : goal.returns-clause-edges
returns-clause-edges c = beside_sum
