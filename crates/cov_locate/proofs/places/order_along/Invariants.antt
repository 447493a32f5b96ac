use Rattle.cov_locate.specs.Rings.{AreNumbersBelow}
use Rattle.cov_locate.proofs.Numbering.{numbers_of}
use Rattle.cov_locate.proofs.places.order_along.Given as goal

abbrev pub invariant-loop-number : goal.invariant-loop-number
invariant-loop-number l = AreNumbersBelow l.number (numbers_of l.keyed.items)
