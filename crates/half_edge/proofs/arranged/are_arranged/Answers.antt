use Rattle.half_edge.proofs.Deciding.{by_true}
use Rattle.half_edge.proofs.Ascending.{ascend_distinct}
use Rattle.half_edge.proofs.Meeting.{arranged}
use Rattle.half_edge.specs.Arranged.{IsArranged}
use Rattle.half_edge.proofs.arranged.are_arranged.Goals as goal

pub returns-clause-exact : goal.returns-clause-exact
returns-clause-exact c = (
  λ t. arranged c.args.edges.now (by_true c.are_in_range.result c.are_in_range.ensures c.if-not-are_in_range.false) (by_true c.are_ascending.result c.are_ascending.ensures c.if-not-are_ascending.false) (c.in_ok-noded.ensures.0 t),
  λ (a : IsArranged c.args.edges.now). c.in_ok-noded.ensures.1 a.planar.noded,
)

pub returns-clause-planar : goal.returns-clause-planar
returns-clause-planar c = λ t. ((returns-clause-exact c).0 t).planar

pub returns-clause-distinct : goal.returns-clause-distinct
returns-clause-distinct c = λ t. ascend_distinct c.args.edges.now ((returns-clause-exact c).0 t).ascending
