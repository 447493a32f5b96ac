use Rattle.greedy_run.proofs.Holders.{holder_is}
use Rattle.greedy_run.proofs.laws.holder_law.Goals as goal

pub returns : goal.returns
returns c = holder_is
