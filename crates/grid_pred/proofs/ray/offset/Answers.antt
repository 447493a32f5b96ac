use Rattle.std.proofs.Common.{◌≡◌, ◌∙◌, ◌^◌, ◌*ℤ◌, ◌-ℤ◌, sym, subst, lit<, lit≤}
use mir.Syntax.{w32, w64}
use Rattle.integer_laws.proofs.Bound.{IsWithin, within_product, within_difference, within_more}
use Rattle.grid_pred.proofs.Small.{read, read_within, times_read, minus_is}
use Rattle.grid_pred.proofs.ray.offset.Goals as goal

product_is : (c : goal.After-product) → c.product.result ≡ c.args.a *ℤ c.args.d
product_is c =
    times_read _ c.args.a c.args.d (within_more (lit≤ tt) c.requires.a_small) (within_more (lit≤ tt) c.requires.d_small)
    (c.product.ensures.exact ∙ (λ i. read w64 (read_within w32 c.args.a (2 ^ 28) (lit< tt) c.requires.a_small i) *ℤ read w64 c.args.d))

product_within : (c : goal.After-product) → IsWithin (2 ^ 29) c.product.result
product_within c = subst (IsWithin (2 ^ 29)) (sym (product_is c)) (within_product c.requires.a_small c.requires.d_small)

pub returns-clause-exact : goal.returns-clause-exact
returns-clause-exact c =
    minus_is w64 c.args.n c.product.result (2 ^ 29) (2 ^ 29) (lit< tt) (lit< tt) c.requires.n_small (product_within c) (lit< tt) ∙ (λ i. c.args.n -ℤ product_is c i)

pub returns-clause-small : goal.returns-clause-small
returns-clause-small c =
    subst (IsWithin (2 ^ 30)) (sym (returns-clause-exact c)) (within_difference c.requires.n_small (within_product c.requires.a_small c.requires.d_small))
