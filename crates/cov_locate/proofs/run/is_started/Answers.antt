use Rattle.std.proofs.Common.{◌∙◌, ap, not}
use Rattle.cov_locate.proofs.Placing.{before_is}
use Rattle.cov_locate.proofs.run.is_started.Goals as goal
use Rattle.grid_pred.proofs.Order.{le_is}

pub returns : goal.returns
returns c = c.le.ensures ∙ le_is c.args.c c.args.p ∙ ap not (before_is c.args.p c.args.c c.requires.second c.requires.first)
