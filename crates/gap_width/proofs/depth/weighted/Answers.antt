use Rattle.std.proofs.Common.{◌≡◌, ◌∙◌, ◌^◌, ◌*ℤ◌, ◌+ℤ◌, sym, subst, lit<, lit≤}
use mir.Syntax.{w128}
use Rattle.integer_laws.proofs.Bound.{IsWithin, within_more, within_product, within_sum}
use Rattle.grid_pred.proofs.Small.{times_read, plus_fits, plus_is}
use Rattle.gap_width.proofs.depth.weighted.Goals as goal

first : (c : goal.After-wide_product-2) → c.wide_product.result ≡ c.args.a *ℤ c.args.x
first c = times_read c.wide_product.result c.args.a c.args.x (within_more (lit≤ tt) c.requires.a_small) c.requires.x_small c.wide_product.ensures.exact

second : (c : goal.After-wide_product-2) → c.wide_product-2.result ≡ c.args.b *ℤ c.args.y
second c = times_read c.wide_product-2.result c.args.b c.args.y (within_more (lit≤ tt) c.requires.b_small) c.requires.y_small c.wide_product-2.ensures.exact

first_small : (c : goal.After-wide_product-2) → IsWithin (2 ^ 101) c.wide_product.result
first_small c = subst (IsWithin (2 ^ 101)) (sym (first c)) (within_product c.requires.a_small c.requires.x_small)

second_small : (c : goal.After-wide_product-2) → IsWithin (2 ^ 101) c.wide_product-2.result
second_small c = subst (IsWithin (2 ^ 101)) (sym (second c)) (within_product c.requires.b_small c.requires.y_small)

pub overflow_add-result : goal.overflow_add-result
overflow_add-result c = plus_fits w128 c.wide_product.result c.wide_product-2.result (2 ^ 101) (2 ^ 101) (lit< tt) (lit< tt) (first_small c) (second_small c) (lit< tt)

pub returns-clause-exact : goal.returns-clause-exact
returns-clause-exact c =
    plus_is w128 c.wide_product.result c.wide_product-2.result (2 ^ 101) (2 ^ 101) (lit< tt) (lit< tt) (first_small c) (second_small c) (lit< tt) ∙ (λ i. first c i +ℤ second c i)

pub returns-clause-small : goal.returns-clause-small
returns-clause-small c = subst (IsWithin (2 ^ 102)) (sym (plus_is w128 c.wide_product.result c.wide_product-2.result (2 ^ 101) (2 ^ 101) (lit< tt) (lit< tt) (first_small c) (second_small c) (lit< tt))) (within_sum (first_small c) (second_small c))
