use Rattle.std.proofs.Common.{◌∙◌, ◌^◌, sym, subst, lit<, rules}
use mir.Syntax.{w64}
use Rattle.integer_laws.proofs.Bound.{IsWithin}
use Rattle.grid_pred.proofs.Small.{difference_small, minus_fits, minus_is}
use Rattle.grid_pred.proofs.Sizes.{x_within, y_within, turn_within}
use Rattle.grid_pred.proofs.Turns.{turn_by}
use Rattle.grid_pred.proofs.orientation.turn_in_range.Goals as goal

pub product-requires-clause-a_small : goal.product-requires-clause-a_small
product-requires-clause-a_small c = difference_small _ c.args.b.x c.args.a.x (x_within c.args.b c.requires.b_in_range) (x_within c.args.a c.requires.a_in_range) c.difference.ensures.exact

pub product-requires-clause-b_small : goal.product-requires-clause-b_small
product-requires-clause-b_small c = difference_small _ c.args.c.y c.args.a.y (y_within c.args.c c.requires.c_in_range) (y_within c.args.a c.requires.a_in_range) c.difference-2.ensures.exact

pub product-requires-2-clause-a_small : goal.product-requires-2-clause-a_small
product-requires-2-clause-a_small c = difference_small _ c.args.b.y c.args.a.y (y_within c.args.b c.requires.b_in_range) (y_within c.args.a c.requires.a_in_range) c.difference-3.ensures.exact

pub product-requires-2-clause-b_small : goal.product-requires-2-clause-b_small
product-requires-2-clause-b_small c = difference_small _ c.args.c.x c.args.a.x (x_within c.args.c c.requires.c_in_range) (x_within c.args.a c.requires.a_in_range) c.difference-4.ensures.exact

pub overflow_sub-result : goal.overflow_sub-result
overflow_sub-result c = minus_fits w64 c.product.result c.product-2.result (2 ^ 60) (2 ^ 60) (lit< tt) (lit< tt) c.product.ensures.small c.product-2.ensures.small (lit< tt)

pub returns-clause-exact : goal.returns-clause-exact
returns-clause-exact c =
    minus_is w64 c.product.result c.product-2.result (2 ^ 60) (2 ^ 60) (lit< tt) (lit< tt) c.product.ensures.small c.product-2.ensures.small (lit< tt)
    ∙ turn_by c.args.a c.args.b c.args.c c.product.result c.product-2.result c.difference.result c.difference-2.result c.difference-3.result c.difference-4.result
    (record { x = search rules; y = search rules }) (record { x = search rules; y = search rules }) (record { x = search rules; y = search rules })
    c.product.ensures.exact c.product-2.ensures.exact
    (record { exact = c.difference.ensures.exact; small = c.difference.ensures.small })
    (record { exact = c.difference-2.ensures.exact; small = c.difference-2.ensures.small })
    (record { exact = c.difference-3.ensures.exact; small = c.difference-3.ensures.small })
    (record { exact = c.difference-4.ensures.exact; small = c.difference-4.ensures.small })

pub returns-clause-small : goal.returns-clause-small
returns-clause-small c =
    subst (IsWithin (2 ^ 59)) (sym (returns-clause-exact c)) (turn_within c.args.a c.args.b c.args.c c.requires.a_in_range c.requires.b_in_range c.requires.c_in_range)
