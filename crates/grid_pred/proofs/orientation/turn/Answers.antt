use Rattle.std.proofs.Common.{◌∙◌, ◌^◌, lit<, rules}
use mir.Syntax.{w128}
use Rattle.grid_pred.proofs.Small.{minus_fits, minus_is}
use Rattle.grid_pred.proofs.Turns.{wide_within, turn_by}
use Rattle.integer_laws.proofs.Bound.{IsWithin}
use Rattle.grid_pred.proofs.orientation.turn.Goals as goal

first_within : (c : goal.After-wide_product-2) → IsWithin (2 ^ 64) c.wide_product.result
first_within c = wide_within _ _ _ c.difference.ensures.small c.difference-2.ensures.small c.wide_product.ensures.exact

second_within : (c : goal.After-wide_product-2) → IsWithin (2 ^ 64) c.wide_product-2.result
second_within c = wide_within _ _ _ c.difference-3.ensures.small c.difference-4.ensures.small c.wide_product-2.ensures.exact

pub overflow_sub-result : goal.overflow_sub-result
overflow_sub-result c = minus_fits w128 c.wide_product.result c.wide_product-2.result (2 ^ 64) (2 ^ 64) (lit< tt) (lit< tt) (first_within c) (second_within c) (lit< tt)

pub returns : goal.returns
returns c =
    minus_is w128 c.wide_product.result c.wide_product-2.result (2 ^ 64) (2 ^ 64) (lit< tt) (lit< tt) (first_within c) (second_within c) (lit< tt)
    ∙ turn_by c.args.a c.args.b c.args.c c.wide_product.result c.wide_product-2.result c.difference.result c.difference-2.result c.difference-3.result c.difference-4.result
    (record { x = search rules; y = search rules }) (record { x = search rules; y = search rules }) (record { x = search rules; y = search rules })
    c.wide_product.ensures.exact c.wide_product-2.ensures.exact
    (record { exact = c.difference.ensures.exact; small = c.difference.ensures.small })
    (record { exact = c.difference-2.ensures.exact; small = c.difference-2.ensures.small })
    (record { exact = c.difference-3.ensures.exact; small = c.difference-3.ensures.small })
    (record { exact = c.difference-4.ensures.exact; small = c.difference-4.ensures.small })
