use Rattle.std.proofs.Common.{arith}
use Rattle.std.proofs.lemmas.Int.{ints}
use Rattle.integer_laws.proofs.Ring.{lin}
use Rattle.gap_width.proofs.depth.vector_from.Goals as goal

pub returns-clause-small : goal.returns-clause-small
returns-clause-small c =
    let x = c.requires.point.x in
    let y = c.requires.point.y in
    let lo = c.requires.edge.lo in
    record { x = record { low = omega (arith, ints, lin); high = omega (arith, ints, lin) }; y = record { low = omega (arith, ints, lin); high = omega (arith, ints, lin) } }
