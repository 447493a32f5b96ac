use Rattle.std.proofs.Common.{sym, subst, ◌^◌, lit<}
use mir.Syntax.{w64}
use Rattle.integer_laws.proofs.Bound.{IsWithin, within_product}
use Rattle.grid_pred.proofs.Small.{times_is}
use Rattle.grid_pred.proofs.exact.product.Goals as goal

pub returns-clause-exact : goal.returns-clause-exact
returns-clause-exact c = times_is w64 c.args.a c.args.b (2 ^ 30) (2 ^ 30) (lit< tt) (lit< tt) c.requires.a_small c.requires.b_small (lit< tt)

pub returns-clause-small : goal.returns-clause-small
returns-clause-small c = subst (IsWithin (2 ^ 60)) (sym (returns-clause-exact c)) (within_product c.requires.a_small c.requires.b_small)
