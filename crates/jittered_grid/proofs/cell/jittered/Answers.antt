use Rattle.std.proofs.Common.{arith}
use Rattle.std.proofs.lemmas.Int.{ints, to_z-of_z}
use Rattle.jittered_grid.proofs.cell.jittered.Goals as goal

pub returns-clause-value : goal.returns-clause-value
returns-clause-value c = λ seed count h. (let drawn = c.next.ensures.value seed count h in grind (arith, ints, to_z-of_z))
