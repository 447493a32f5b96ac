use Rattle.std.proofs.Common.{rules}
use Rattle.plane.proofs.Sweeps.{rises-in_range}
use Rattle.grid_pred.proofs.Heights.{tells_side, less-below, equal-on, greater-above}
use Rattle.grid_pred.proofs.along.below.Goals as goal

pub returns-clause-side : goal.returns-clause-side
returns-clause-side c = tells_side c.args.s c.args.p c.turn_to.result c.cmp.result (search rules) c.turn_to.ensures.side c.cmp.ensures

pub returns-clause-less : goal.returns-clause-less
returns-clause-less c = less-below c.args.s c.args.p (rises-in_range c.args.s c.requires.segment_in_range) c.requires.from c.requires.to c.cmp.result (returns-clause-side c)

pub returns-clause-equal : goal.returns-clause-equal
returns-clause-equal c = equal-on c.args.s c.args.p (rises-in_range c.args.s c.requires.segment_in_range) c.requires.from c.requires.to c.cmp.result (returns-clause-side c)

pub returns-clause-greater : goal.returns-clause-greater
returns-clause-greater c = greater-above c.args.s c.args.p (rises-in_range c.args.s c.requires.segment_in_range) c.requires.from c.requires.to c.cmp.result (returns-clause-side c)
