use Rattle.parity_laws.proofs.Middle.{over-upper, member_holds-upper, not_over_own}
use Rattle.parity_laws.proofs.Under.{over_under}
use Rattle.parity_laws.proofs.laws.midpoint_law.Goals as goal

pub returns-clause-upper : goal.returns-clause-upper
returns-clause-upper c = over-upper

pub returns-clause-members : goal.returns-clause-members
returns-clause-members c = member_holds-upper

pub returns-clause-own : goal.returns-clause-own
returns-clause-own c = not_over_own

pub returns-clause-under : goal.returns-clause-under
returns-clause-under c = over_under
