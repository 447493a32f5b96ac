use Rattle.arrangement.proofs.Computed.{length_examples, snapped_examples, overlap_examples}
use Rattle.arrangement.proofs.examples.vectors.Goals as goal

pub returns-clause-lengths : goal.returns-clause-lengths
returns-clause-lengths c = length_examples

pub returns-clause-snapped : goal.returns-clause-snapped
returns-clause-snapped c = snapped_examples

pub returns-clause-overlap : goal.returns-clause-overlap
returns-clause-overlap c = overlap_examples
