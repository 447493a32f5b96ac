use Rattle.std.proofs.Common.{◌≡◌, ◌∙◌, ◌^◌, ◌*ℤ◌, ◌-ℤ◌, lit<, lit≤, rules}
use mir.Syntax.{w64}
use Rattle.integer_laws.proofs.Bound.{within_more}
use Rattle.grid_pred.proofs.Small.{times_read, minus_fits, minus_is, difference_is, difference_small}
use Rattle.grid_pred.proofs.Sizes.{x_within, y_within}
use Rattle.grid_pred.proofs.ray.side_of.Goals as goal

pub product-requires-clause-a_small : goal.product-requires-clause-a_small
product-requires-clause-a_small c =
    let e = c.args.e in
    difference_small _ e.hi.x e.lo.x (x_within e.hi c.requires.edge_in_range.hi) (x_within e.lo c.requires.edge_in_range.lo) c.difference.ensures.exact

pub product-requires-2-clause-a_small : goal.product-requires-2-clause-a_small
product-requires-2-clause-a_small c =
    let e = c.args.e in
    difference_small _ e.hi.y e.lo.y (y_within e.hi c.requires.edge_in_range.hi) (y_within e.lo c.requires.edge_in_range.lo) c.difference-2.ensures.exact

pub overflow_sub-result : goal.overflow_sub-result
overflow_sub-result c = minus_fits w64 c.product.result c.product-2.result (2 ^ 60) (2 ^ 60) (lit< tt) (lit< tt) c.product.ensures.small c.product-2.ensures.small (lit< tt)

first : (c : goal.After-product-2) → c.product.result ≡ (c.args.e.hi.x -ℤ c.args.e.lo.x) *ℤ c.args.v.y
first c =
    times_read _ c.difference.result c.args.v.y (within_more (lit≤ tt) c.difference.ensures.small) (within_more (lit≤ tt) c.requires.small.y) c.product.ensures.exact
    ∙ (λ i. difference_is c.difference.result c.args.e.hi.x c.args.e.lo.x (search rules) (search rules) c.difference.ensures.exact i *ℤ c.args.v.y)

second : (c : goal.After-product-2) → c.product-2.result ≡ (c.args.e.hi.y -ℤ c.args.e.lo.y) *ℤ c.args.v.x
second c =
    times_read _ c.difference-2.result c.args.v.x (within_more (lit≤ tt) c.difference-2.ensures.small) (within_more (lit≤ tt) c.requires.small.x) c.product-2.ensures.exact
    ∙ (λ i. difference_is c.difference-2.result c.args.e.hi.y c.args.e.lo.y (search rules) (search rules) c.difference-2.ensures.exact i *ℤ c.args.v.x)

pub returns : goal.returns
returns c =
    minus_is w64 c.product.result c.product-2.result (2 ^ 60) (2 ^ 60) (lit< tt) (lit< tt) c.product.ensures.small c.product-2.ensures.small (lit< tt)
    ∙ (λ i. first c i -ℤ second c i)
