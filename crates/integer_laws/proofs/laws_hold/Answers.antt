use Rattle.integer_laws.proofs.Ring.{by_ring}
use Rattle.integer_laws.proofs.Bound.{by_bound}
use Rattle.integer_laws.proofs.Sign.{product_zero_is}
use Rattle.integer_laws.proofs.Order.{fraction_le_trans}
use Rattle.integer_laws.proofs.laws_hold.Goals as goal

pub returns-clause-equations : goal.returns-clause-equations
returns-clause-equations c = by_ring

pub returns-clause-bounds : goal.returns-clause-bounds
returns-clause-bounds c = by_bound

pub returns-clause-zeros : goal.returns-clause-zeros
returns-clause-zeros c = product_zero_is

pub returns-clause-fractions : goal.returns-clause-fractions
returns-clause-fractions c = fraction_le_trans
