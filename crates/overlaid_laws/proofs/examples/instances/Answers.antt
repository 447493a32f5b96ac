use Rattle.overlaid_laws.proofs.OverlapBuilt.{overlap_examples}
use Rattle.overlaid_laws.proofs.examples.instances.Goals as goal

pub returns : goal.returns
returns c = overlap_examples
