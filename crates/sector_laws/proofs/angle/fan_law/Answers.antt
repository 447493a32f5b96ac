use Rattle.sector_laws.proofs.Fans.{fan_next, fan_round}
use Rattle.sector_laws.proofs.angle.fan_law.Goals as goal

pub returns-clause-neighbours : goal.returns-clause-neighbours
returns-clause-neighbours c = fan_next

pub returns-clause-round : goal.returns-clause-round
returns-clause-round c = fan_round
