use Rattle.crossing_laws.proofs.Sums.{holds-joined, member_holds-joined, label-joined}
use Rattle.crossing_laws.proofs.crossing.parity_law.Goals as goal

pub returns-clause-edges : goal.returns-clause-edges
returns-clause-edges c = holds-joined

pub returns-clause-member : goal.returns-clause-member
returns-clause-member c = member_holds-joined

pub returns-clause-label : goal.returns-clause-label
returns-clause-label c = label-joined
