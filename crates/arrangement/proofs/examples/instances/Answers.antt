use Rattle.arrangement.proofs.HalfCrossing.{hot_examples, chain_examples}
use Rattle.arrangement.proofs.SquareOverlay.{square_examples}
use Rattle.arrangement.proofs.examples.instances.Goals as goal

pub returns-clause-hot : goal.returns-clause-hot
returns-clause-hot c = hot_examples

pub returns-clause-chains : goal.returns-clause-chains
returns-clause-chains c = chain_examples

pub returns-clause-square : goal.returns-clause-square
returns-clause-square c = square_examples
