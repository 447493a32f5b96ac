use Rattle.cover_cli.proofs.Sampling.{sampled_law}
use Rattle.cover_cli.proofs.laws.sample_law.Goals as goal

pub returns : goal.returns
returns c = sampled_law
