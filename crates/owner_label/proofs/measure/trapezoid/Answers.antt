use Rattle.std.proofs.Common.{◌∙◌, lit≤, rules}
use Rattle.integer_laws.proofs.Bound.{within_more}
use Rattle.grid_pred.proofs.Sizes.{x_within, y_within}
use Rattle.grid_pred.proofs.Small.{times_read, difference_is, difference_small}
use Rattle.owner_label.proofs.Trapezoids.{sum_is, sum_small, trapezoid_is, widened, widened_small}
use Rattle.owner_label.proofs.measure.trapezoid.Goals as goal

pub product-requires-clause-a_small : goal.product-requires-clause-a_small
product-requires-clause-a_small c =
    let e = c.args.e in
    difference_small _ e.hi.x e.lo.x (x_within e.hi c.requires.in_range.hi) (x_within e.lo c.requires.in_range.lo) c.difference.ensures.exact

pub product-requires-clause-b_small : goal.product-requires-clause-b_small
product-requires-clause-b_small c =
    let e = c.args.e in
    sum_small _ e.lo.y e.hi.y (y_within e.lo c.requires.in_range.lo) (y_within e.hi c.requires.in_range.hi) c.sum.ensures.exact

pub returns-clause-exact : goal.returns-clause-exact
returns-clause-exact c =
    let e = c.args.e in
    let product = times_read _ c.difference.result c.sum.result (within_more (lit≤ tt) c.difference.ensures.small) (within_more (lit≤ tt) c.sum.ensures.small) c.product.ensures.exact in
    widened c.product.result c.product.ensures.small
    ∙ trapezoid_is e c.product.result c.difference.result c.sum.result product (difference_is c.difference.result e.hi.x e.lo.x (search rules) (search rules) c.difference.ensures.exact)
    (sum_is c.sum.result e.lo.y e.hi.y (search rules) (search rules) c.sum.ensures.exact)

pub returns-clause-small : goal.returns-clause-small
returns-clause-small c = widened_small c.product.result c.product.ensures.small
