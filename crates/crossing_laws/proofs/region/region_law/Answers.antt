use Rattle.crossing_laws.proofs.Located.{region-joined, one_region, same_region}
use Rattle.crossing_laws.proofs.region.region_law.Goals as goal

pub returns-clause-joined : goal.returns-clause-joined
returns-clause-joined c = region-joined

pub returns-clause-one : goal.returns-clause-one
returns-clause-one c = one_region

pub returns-clause-same : goal.returns-clause-same
returns-clause-same c = same_region
