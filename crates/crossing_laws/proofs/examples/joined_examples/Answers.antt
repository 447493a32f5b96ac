use Rattle.crossing_laws.proofs.Instances.{round_island, triangle_apart, winding_examples}
use Rattle.crossing_laws.proofs.examples.joined_examples.Goals as goal

pub returns-clause-island : goal.returns-clause-island
returns-clause-island c = round_island

pub returns-clause-triangle : goal.returns-clause-triangle
returns-clause-triangle c = triangle_apart

pub returns-clause-winding : goal.returns-clause-winding
returns-clause-winding c = winding_examples
