use Rattle.std.proofs.Common.{◌≤◌, ◌-◌}
use Rattle.cov_build.specs.Boundaries.{boundary_edges}
use Rattle.cov_build.specs.Rings.{AreClosedRings}
use Rattle.cov_build.proofs.Passed.{IsWalkedTo}
use Rattle.cov_build.proofs.polygon.walked_rings.Given as goal

abbrev pub invariant-loop-k : goal.invariant-loop-k
invariant-loop-k l = record {
  walked : IsWalkedTo l.boundary l.k l.seen.items l.rings.list.items;
  closed : AreClosedRings (boundary_edges l.boundary) l.rings.shell l.rings.list.items;
  shell : l.rings.shell ≤ l.rings.list.len - 1;
}
