use Rattle.crossing_laws.proofs.Sums.{crossing_sum-joined}
use Rattle.crossing_laws.proofs.crossing.crossing_sum_law.Goals as goal

pub returns : goal.returns
returns c = crossing_sum-joined
