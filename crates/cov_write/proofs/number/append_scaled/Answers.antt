use Rattle.cov_write.proofs.Places.{some_unit, unit_below}
use Rattle.cov_write.proofs.number.append_scaled.Goals as goal

pub nonzero_div-size : goal.nonzero_div-size
nonzero_div-size c = some_unit c.pow-unit.result c.from.result c.pow-unit.ensures

pub nonzero_rem-size : goal.nonzero_rem-size
nonzero_rem-size c = some_unit c.pow-unit.result c.from.result c.pow-unit.ensures

pub append_fraction-requires-clause-below : goal.append_fraction-requires-clause-below
append_fraction-requires-clause-below c = unit_below c.unsigned_abs-size.result c.pow-unit.result c.from.result c.args.places c.from.ensures c.pow-unit.ensures
