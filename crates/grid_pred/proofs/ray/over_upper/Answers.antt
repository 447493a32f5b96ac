use Rattle.std.proofs.Common.{◌∙◌, sym}
use Rattle.grid_pred.proofs.Upper.{over_upper-is_over_mid}
use Rattle.grid_pred.proofs.ray.over_upper.Goals as goal

pub returns : goal.returns
returns c = c.over_mid.ensures ∙ sym (over_upper-is_over_mid c.args.e c.args.s c.requires.edge_in_range)
