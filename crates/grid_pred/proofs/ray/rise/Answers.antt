use Rattle.std.proofs.Common.{◌∙◌, ◌^◌, sym, subst, rules}
use mir.Syntax.{w64}
use Rattle.integer_laws.proofs.Bound.{IsWithin}
use Rattle.grid_pred.proofs.Small.{read_is, difference_is}
use Rattle.grid_pred.proofs.Sizes.{rise_within}
use Rattle.grid_pred.proofs.Vectors.{rise_by}
use Rattle.grid_pred.proofs.ray.rise.Goals as goal

pub returns-clause-exact : goal.returns-clause-exact
returns-clause-exact c =
    let s = c.args.s in
    let x = c.difference.result in
    let y = c.difference-2.result in
    read_is w64 c.rise_along.result _ (search rules)
    (c.rise_along.ensures
    ∙ rise_by s _ _
    (read_is w64 x _ (search rules) (difference_is x s.hi.x s.lo.x (search rules) (search rules) c.difference.ensures.exact))
    (read_is w64 y _ (search rules) (difference_is y s.hi.y s.lo.y (search rules) (search rules) c.difference-2.ensures.exact)))

pub returns-clause-small : goal.returns-clause-small
returns-clause-small c = subst (IsWithin (2 ^ 60)) (sym (returns-clause-exact c)) (rise_within c.args.s c.requires)
