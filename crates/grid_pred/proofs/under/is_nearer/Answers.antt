use Rattle.std.proofs.Common.{rules}
use mir.Syntax.{w64}
use Rattle.grid_pred.proofs.Small.{read_is}
use Rattle.grid_pred.proofs.Nearer.{nearer_by_turn, nearer_by_depth}
use Rattle.grid_pred.proofs.under.is_nearer.Goals as goal

pub returns-then-depth_of_e-depth_of_f : goal.returns-then-depth_of_e-depth_of_f
returns-then-depth_of_e-depth_of_f c =
    nearer_by_turn c.args.v c.args.e c.args.f _ _ (search rules) (search rules) c.depth-depth_of_e.ensures.exact c.depth-depth_of_f.ensures.exact c.if-depth_of_e-depth_of_f.true _
    (read_is w64 c.turn_to.result _ (search rules) c.turn_to.ensures.side)

pub returns-else-depth_of_e-depth_of_f : goal.returns-else-depth_of_e-depth_of_f
returns-else-depth_of_e-depth_of_f c =
    nearer_by_depth c.args.v c.args.e c.args.f _ _ (search rules) (search rules) c.depth-depth_of_e.ensures.exact c.depth-depth_of_f.ensures.exact c.if-depth_of_e-depth_of_f.false
