use Rattle.std.proofs.Common.{arith}
use Rattle.std.proofs.lemmas.Int.{ints}
use Rattle.grid_pred.proofs.Lengths.{square_small}
use Rattle.grid_pred.proofs.measure.square.Goals as goal

pub returns-clause-small : goal.returns-clause-small
returns-clause-small c = square_small c.abs_diff-distance.result (omega (arith, ints))
