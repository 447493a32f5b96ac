use Rattle.std.proofs.Common.{◌^◌, lit<, pos, ◌<ℤ◌, sym, subst, arith}
use Rattle.std.proofs.lemmas.Int.{ints}
use mir.Syntax.{w64}
use Rattle.grid_pred.proofs.Small.{plus_fits}
use Rattle.grid_pred.proofs.Weighted.{weights_is}
use Rattle.grid_pred.proofs.intersection.mean_of_ends.Goals as goal

pub weighted_sum-requires-2-clause-a_small : goal.weighted_sum-requires-2-clause-a_small
weighted_sum-requires-2-clause-a_small c = let lo = c.requires.in_range.lo in record { low = omega (arith, ints); high = omega (arith, ints) }

pub weighted_sum-requires-2-clause-b_small : goal.weighted_sum-requires-2-clause-b_small
weighted_sum-requires-2-clause-b_small c = let hi = c.requires.in_range.hi in record { low = omega (arith, ints); high = omega (arith, ints) }

pub overflow_add-result : goal.overflow_add-result
overflow_add-result c = plus_fits w64 c.args.lo c.args.hi (2 ^ 59) (2 ^ 59) (lit< tt) (lit< tt) c.requires.lo_small c.requires.hi_small (lit< tt)

pub invariant_of-result : goal.invariant_of-result
invariant_of-result c = record {
  positive = subst (λ z. pos 0 <ℤ z) (sym (weights_is c.args.lo c.args.hi c.requires.lo_small c.requires.hi_small)) c.requires.weighted;
}

pub returns-clause-den : goal.returns-clause-den
returns-clause-den c = weights_is c.args.lo c.args.hi c.requires.lo_small c.requires.hi_small
