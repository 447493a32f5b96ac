use Rattle.cov_overlay.proofs.SidePairs.{label_up, side_own, side_other}
use Rattle.cov_overlay.proofs.region_pair.pair_of_side.Goals as goal

pub pair_of_label-requires : goal.pair_of_label-requires
pair_of_label-requires c = let (o, is) = c.label.ensures.some in label_up o c.args.region c.label.result.now (c.label.ensures.label o is)

pub returns-then-region-side : goal.returns-then-region-side
returns-then-region-side c = λ o is of_side.
    side_own c.args.first o c.args.side c.args.region of_side c.label.result.now c.pair_of_label.result c.if-region-side.true (c.label.ensures.label o is) c.pair_of_label.ensures

pub returns-else-region-side : goal.returns-else-region-side
returns-else-region-side c = λ o is of_side. side_other c.args.first o c.args.side c.args.region of_side c.if-region-side.false
