use Rattle.crossing_laws.proofs.Rings.{ring_balanced, coverage_balanced, coverage_edges}
use Rattle.crossing_laws.proofs.Coverages.{winding-joined}
use Rattle.crossing_laws.proofs.ring.ring_law.Goals as goal

pub returns-clause-ring : goal.returns-clause-ring
returns-clause-ring c = ring_balanced

pub returns-clause-winding : goal.returns-clause-winding
returns-clause-winding c = winding-joined

pub returns-clause-coverage : goal.returns-clause-coverage
returns-clause-coverage c = λ members. record { balanced = coverage_balanced members; used = coverage_edges members }
