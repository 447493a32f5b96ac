use Rattle.overlaid_laws.proofs.Computed.{label_examples}
use Rattle.overlaid_laws.proofs.examples.vectors.Goals as goal

pub returns : goal.returns
returns c = label_examples
