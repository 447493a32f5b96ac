use Rattle.std.proofs.Common.{rules}
use Rattle.cov_types.proofs.Equal.{Decides-same_uses}
use Rattle.cov_types.proofs.edge_use.EdgeUse.is_same.Goals as goal

pub returns : goal.returns
returns c = search (rules, Decides-same_uses)
