use Rattle.std.proofs.Common.{◌∙◌, sym, rules}
use mir.Syntax.{w64}
use Rattle.plane.proofs.Sides.{side-at_coord}
use Rattle.grid_pred.proofs.Small.{read_is}
use Rattle.grid_pred.proofs.orientation.turn_to.Goals as goal

pub returns-clause-side : goal.returns-clause-side
returns-clause-side c =
    read_is w64 c.turn_in_range.result _ (search rules) c.turn_in_range.ensures.exact ∙ sym (side-at_coord c.args.s c.args.p)
