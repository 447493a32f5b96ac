use Rattle.std.proofs.Common.{◌^◌, sym, subst, rules}
use mir.Syntax.{w128}
use Rattle.integer_laws.proofs.Bound.{IsWithin, within_product}
use Rattle.grid_pred.proofs.Small.{read_is}
use Rattle.grid_pred.proofs.Sizes.{side_within, rise_within}
use Rattle.grid_pred.proofs.Nearer.{depth_is}
use Rattle.grid_pred.proofs.under.depth.Goals as goal

pub returns-clause-exact : goal.returns-clause-exact
returns-clause-exact c =
    read_is w128 c.wide_product.result _ (search rules)
    (depth_is _ _ _ _ _ c.turn_to.ensures.side c.turn_to.ensures.small c.rise.ensures.exact c.rise.ensures.small c.wide_product.ensures.exact)

pub returns-clause-small : goal.returns-clause-small
returns-clause-small c =
    subst (IsWithin (2 ^ 119)) (sym (returns-clause-exact c))
    (within_product (side_within c.args.e c.args.v c.requires.e_in_range c.requires.point_in_range) (rise_within c.args.f c.requires.f_in_range))
