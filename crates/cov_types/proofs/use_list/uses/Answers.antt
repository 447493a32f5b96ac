use Rattle.std.proofs.Common.{sym, subst}
use Rattle.cov_types.proofs.EvenEnds.{even-ends}
use Rattle.cov_types.proofs.use_list.uses.Goals as goal
use Rattle.cov_types.specs.Uses.{HasEvenEnds}

pub returns-clause-even : goal.returns-clause-even
returns-clause-even c = subst HasEvenEnds (sym c.in_ok-uses.ensures.uses) (even-ends c.args.c.now)
