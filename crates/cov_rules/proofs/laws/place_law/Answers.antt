use Rattle.cov_rules.specs.Places.{pick_within}
use Rattle.cov_rules.proofs.laws.place_law.Goals as goal

pub returns : goal.returns
returns c = pick_within
