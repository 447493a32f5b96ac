use Rattle.region_owners.proofs.Frame.{frame_examples}
use Rattle.region_owners.proofs.SquareOwners.{square_examples}
use Rattle.region_owners.proofs.examples.instances.Goals as goal

pub returns-clause-square : goal.returns-clause-square
returns-clause-square c = square_examples

pub returns-clause-frame : goal.returns-clause-frame
returns-clause-frame c = frame_examples
