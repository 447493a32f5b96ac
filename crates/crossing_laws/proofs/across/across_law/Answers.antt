use Rattle.crossing_laws.proofs.Changes.{side_points-clear, holds-across, member_holds-across, crossing_sum-across}
use Rattle.crossing_laws.proofs.across.across_law.Goals as goal

pub returns-clause-beside : goal.returns-clause-beside
returns-clause-beside c = side_points-clear

pub returns-clause-edges : goal.returns-clause-edges
returns-clause-edges c = holds-across

pub returns-clause-members : goal.returns-clause-members
returns-clause-members c = member_holds-across

pub returns-clause-sums : goal.returns-clause-sums
returns-clause-sums c = crossing_sum-across
