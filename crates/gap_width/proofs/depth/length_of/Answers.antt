use Rattle.std.proofs.Common.{arith}
use Rattle.std.proofs.lemmas.Int.{ints}
use Rattle.integer_laws.proofs.Ring.{lin}
use Rattle.gap_width.proofs.Depths.{length_small}
use Rattle.gap_width.proofs.depth.length_of.Goals as goal

pub overflow_cast-result : goal.overflow_cast-result
overflow_cast-result c = (let small = length_small c.args.e c.requires in omega (arith, ints, small, c.edge_len.ensures))

pub returns-clause-exact : goal.returns-clause-exact
returns-clause-exact c = (let small = length_small c.args.e c.requires in omega (arith, ints, lin, small, c.edge_len.ensures))

pub returns-clause-small : goal.returns-clause-small
returns-clause-small c = (let small = length_small c.args.e c.requires in record { low = omega (arith, ints, lin, small, c.edge_len.ensures); high = omega (arith, ints, lin, small, c.edge_len.ensures) })
