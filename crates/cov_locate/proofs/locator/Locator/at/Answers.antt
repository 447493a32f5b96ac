use Rattle.std.proofs.Common.{List, subst}
use Rattle.cov_locate.proofs.locator.Locator.at.Goals as goal
use Rattle.cov_locate.specs.Where.{IsWhere}
use Rattle.cov_types.specs.declared.edge_use.EdgeUse.{EdgeUse}

pub returns : goal.returns
returns c = subst (λ (uses : List EdgeUse). IsWhere uses c.args.p c.place_in.result) c.self.view_is c.place_in.ensures
