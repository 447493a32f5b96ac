use Rattle.region_laws.proofs.Edge.{below_joined, none_below_outer}
use Rattle.region_laws.proofs.Nearest.{nearest_or_none}
use Rattle.region_laws.proofs.below.below_law.Goals as goal

pub returns-clause-nearest : goal.returns-clause-nearest
returns-clause-nearest c = below_joined

pub returns-clause-none : goal.returns-clause-none
returns-clause-none c = none_below_outer

pub returns-clause-some : goal.returns-clause-some
returns-clause-some c = nearest_or_none
