use Rattle.plane.proofs.Sweeps.{sweep-before, before-sweep, rises-in_range}
use Rattle.plane.proofs.laws.sweep_law.Goals as goal

pub returns-clause-ordered : goal.returns-clause-ordered
returns-clause-ordered c = λ a b in_range_a in_range_b. (sweep-before a b in_range_a in_range_b, before-sweep a b in_range_a in_range_b)

pub returns-clause-rises : goal.returns-clause-rises
returns-clause-rises c = rises-in_range
