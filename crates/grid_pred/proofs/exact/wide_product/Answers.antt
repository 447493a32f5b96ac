use Rattle.std.proofs.Common.{◌≡◌, ◌*ℤ◌, sym, subst, ◌^◌, lit<}
use Rattle.std.proofs.lemmas.Int.{to_z-of_z}
use mir.Syntax.{w64, w128}
use Rattle.integer_laws.proofs.Bound.{IsWithin, within_product, fits_within}
use Rattle.grid_pred.proofs.Small.{read, times_is}
use Rattle.grid_pred.proofs.exact.wide_product.Goals as goal

pub returns-clause-exact : goal.returns-clause-exact
returns-clause-exact c =
    let a = fits_within w64 c.ranges.a in
    let b = fits_within w64 c.ranges.b in
    subst (λ x. read w128 (read w128 x *ℤ read w128 (read w64 c.args.b)) ≡ c.args.a *ℤ c.args.b) (sym (to_z-of_z w64 c.args.a c.ranges.a))
    (subst (λ y. read w128 (read w128 c.args.a *ℤ read w128 y) ≡ c.args.a *ℤ c.args.b) (sym (to_z-of_z w64 c.args.b c.ranges.b))
    (times_is w128 c.args.a c.args.b (2 ^ 63) (2 ^ 63) (lit< tt) (lit< tt) a b (lit< tt)))

pub returns-clause-small : goal.returns-clause-small
returns-clause-small c = subst (IsWithin (2 ^ 126)) (sym (returns-clause-exact c)) (within_product (fits_within w64 c.ranges.a) (fits_within w64 c.ranges.b))
