use Rattle.sector_laws.proofs.Sectors.{next_joined}
use Rattle.sector_laws.proofs.Numbers.{sides_joined}
use Rattle.sector_laws.proofs.sector.sector_law.Goals as goal

pub returns-clause-half_edges : goal.returns-clause-half_edges
returns-clause-half_edges c = next_joined

pub returns-clause-sides : goal.returns-clause-sides
returns-clause-sides c = sides_joined
