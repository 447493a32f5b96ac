use Rattle.std.proofs.Common.{arith}
use Rattle.cov_build.specs.Boundaries.{boundary_edges}
use Rattle.cov_build.proofs.ClosedRings.{closed_front}
use Rattle.cov_build.proofs.Passed.{in_other_order}
use Rattle.cov_build.proofs.polygon.polygon_in.Goals as goal

pub returns : goal.returns
returns c =
    let rings = c.in_ok-rings.rings in
    let polygon = c.in_ok-polygon.polygon in
    let closed =
    closed_front (boundary_edges c.args.boundary.now) rings.shell rings.list.items polygon (omega (arith, c.in_ok-rings.ensures.shell, rings.list.ok.0)) c.in_ok-polygon.ensures.front c.in_ok-rings.ensures.closed in
    in_other_order c.args.boundary.now rings.list.items polygon c.in_ok-polygon.ensures.same c.in_ok-polygon.ensures.holes closed c.in_ok-rings.ensures.rings
