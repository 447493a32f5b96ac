use Rattle.half_edge.proofs.Places.{all_more}
use Rattle.half_edge.proofs.Deciding.{by_true}
use Rattle.cov_types.specs.Range.{IsSegInRange}
use Rattle.half_edge.proofs.arranged.are_in_range.Goals as goal

pub loop-e-preserved : goal.loop-e-preserved
loop-e-preserved c =
    all_more IsSegInRange c.args.edges.now c.loop-e.e-index c.e-item.result c.loop-e.invariant c.loop-e-test.true c.e-item.is
    (record {
      lo = by_true c.is_in_range.result c.is_in_range.ensures c.if-not-is_in_range.false;
      hi = by_true c.is_in_range-else-not-is_in_range.result c.is_in_range-else-not-is_in_range.ensures c.if-not-is_in_range-2.false;
    })
