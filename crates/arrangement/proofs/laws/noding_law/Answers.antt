use Rattle.arrangement.proofs.OneNoding.{one_noding}
use Rattle.arrangement.proofs.laws.noding_law.Goals as goal

pub returns : goal.returns
returns c = one_noding
