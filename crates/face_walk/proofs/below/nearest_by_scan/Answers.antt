use Rattle.std.proofs.Common.{below_more, arith}
use Rattle.plane.specs.Point.{at_coord}
use Rattle.face_walk.specs.Nearest.{IsSettled}
use Rattle.face_walk.proofs.Settling.{nearest_of_all}
use Rattle.face_walk.proofs.below.nearest_by_scan.Goals as goal

pub loop-k-preserved : goal.loop-k-preserved
loop-k-preserved c =
    let edges = c.args.edges.now in
    let p = at_coord c.args.p in
    record {
      candidate = c.nearest_with-nearest.ensures.candidate;
      settled = below_more (λ i. IsSettled edges p c.nearest_with-nearest.result i) c.loop-k.k
          (λ i lt. c.nearest_with-nearest.ensures.kept i (c.loop-k.invariant.settled i lt)) c.nearest_with-nearest.ensures.settled;
    }

pub returns : goal.returns
returns c = nearest_of_all c.args.edges.now (at_coord c.args.p) c.loop-k.nearest c.loop-k.invariant.candidate (λ i lt. c.loop-k.invariant.settled i (omega (arith, lt, c.loop-k-test.false)))
