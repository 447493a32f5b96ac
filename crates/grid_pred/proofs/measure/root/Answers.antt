use Rattle.plane.proofs.Roots.{root_is, root_unique}
use Rattle.plane.specs.Length.{root}
use Rattle.grid_pred.proofs.measure.root.Goals as goal

pub returns : goal.returns
returns c = root_unique c.args.n c.isqrt.result (root c.args.n) (record { at_most = c.isqrt.ensures.square_le; next_more = c.isqrt.ensures.next_square_gt }) (root_is c.args.n)
