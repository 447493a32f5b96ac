use Rattle.std.proofs.Common.{◌^◌, sym, subst, arith, rules}
use Rattle.std.proofs.lemmas.Int.{ints}
use Rattle.integer_laws.proofs.Bound.{IsWithin}
use Rattle.hot_pixel.proofs.Beside.{turn_small}
use Rattle.hot_pixel.proofs.passing.twice_turn.Goals as goal

turned_small : (c : goal.After-turn) → IsWithin (2 ^ 65) c.turn.result
turned_small c = subst (IsWithin (2 ^ 65)) (sym c.turn.ensures) (turn_small c.args.s.lo c.args.s.hi c.args.r (search rules) (search rules) (search rules) (search rules) (search rules) (search rules))

pub overflow_mul-result : goal.overflow_mul-result
overflow_mul-result c = let small = turned_small c in omega (arith, ints)

pub returns-clause-exact : goal.returns-clause-exact
returns-clause-exact c = let small = turned_small c in omega (arith, ints)

pub returns-clause-small : goal.returns-clause-small
returns-clause-small c = let small = turned_small c in omega (arith, ints)
