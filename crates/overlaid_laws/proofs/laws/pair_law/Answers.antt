use Rattle.overlaid_laws.proofs.BelowPairs.{pair_below}
use Rattle.overlaid_laws.proofs.OnePairs.{one_joint_pairs}
use Rattle.overlaid_laws.proofs.PairOwners.{outer_pair}
use Rattle.overlaid_laws.proofs.laws.pair_law.Goals as goal

pub returns-clause-below : goal.returns-clause-below
returns-clause-below c = pair_below

pub returns-clause-outer : goal.returns-clause-outer
returns-clause-outer c = outer_pair

pub returns-clause-one : goal.returns-clause-one
returns-clause-one c = one_joint_pairs
