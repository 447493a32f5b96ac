use Rattle.sector_laws.proofs.Order.{one_or_before, before-asymm, before-trans}
use Rattle.sector_laws.proofs.angle.angle_law.Goals as goal

pub returns-clause-total : goal.returns-clause-total
returns-clause-total c = one_or_before

pub returns-clause-asymmetric : goal.returns-clause-asymmetric
returns-clause-asymmetric c = before-asymm

pub returns-clause-transitive : goal.returns-clause-transitive
returns-clause-transitive c = before-trans
