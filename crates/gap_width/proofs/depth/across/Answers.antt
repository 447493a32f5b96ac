use Rattle.std.proofs.Common.{◌∙◌, ◌^◌, ◌-ℤ◌, sym, subst, lit<, lit≤}
use mir.Syntax.{w64}
use Rattle.integer_laws.proofs.Bound.{IsWithin, within_more, within_product, within_difference}
use Rattle.grid_pred.proofs.Small.{times_read, minus_fits, minus_is}
use Rattle.gap_width.proofs.depth.across.Goals as goal

pub overflow_sub-result : goal.overflow_sub-result
overflow_sub-result c = minus_fits w64 c.product.result c.product-2.result (2 ^ 60) (2 ^ 60) (lit< tt) (lit< tt) c.product.ensures.small c.product-2.ensures.small (lit< tt)

pub returns-clause-exact : goal.returns-clause-exact
returns-clause-exact c =
    let u = c.args.u in
    let v = c.args.v in
    let us = c.requires.u_small in
    let vs = c.requires.v_small in
    minus_is w64 c.product.result c.product-2.result (2 ^ 60) (2 ^ 60) (lit< tt) (lit< tt) c.product.ensures.small c.product-2.ensures.small (lit< tt)
    ∙ (λ i. times_read c.product.result u.x v.y (within_more (lit≤ tt) us.x) (within_more (lit≤ tt) vs.y) c.product.ensures.exact i
    -ℤ times_read c.product-2.result u.y v.x (within_more (lit≤ tt) us.y) (within_more (lit≤ tt) vs.x) c.product-2.ensures.exact i)

pub returns-clause-small : goal.returns-clause-small
returns-clause-small c =
    subst (IsWithin (2 ^ 61)) (sym (returns-clause-exact c))
    (within_difference (within_product c.requires.u_small.x c.requires.v_small.y) (within_product c.requires.u_small.y c.requires.v_small.x))
