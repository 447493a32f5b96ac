use Rattle.sector_laws.proofs.Shapes.{narrow_sector, wide_sector, straight_sector, full_sector}
use Rattle.sector_laws.proofs.angle.shape_law.Goals as goal

pub returns-clause-narrow : goal.returns-clause-narrow
returns-clause-narrow c = narrow_sector

pub returns-clause-wide : goal.returns-clause-wide
returns-clause-wide c = wide_sector

pub returns-clause-straight : goal.returns-clause-straight
returns-clause-straight c = straight_sector

pub returns-clause-full : goal.returns-clause-full
returns-clause-full c = full_sector
