use Rattle.crossing_laws.proofs.Coverages.{coverage_holds-joined, coverage_label-joined}
use Rattle.crossing_laws.proofs.crossing.coverage_law.Goals as goal

pub returns-clause-members : goal.returns-clause-members
returns-clause-members c = coverage_holds-joined

pub returns-clause-label : goal.returns-clause-label
returns-clause-label c = coverage_label-joined
