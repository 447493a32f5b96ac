use Rattle.std.proofs.Common.{◌≡◌, take}
use Rattle.cov_build.specs.Boundaries.{boundary_edges}
use Rattle.cov_build.proofs.polygon.edges_of.Given as goal

abbrev pub invariant-loop-b : goal.invariant-loop-b
invariant-loop-b l = l.edges.items ≡ boundary_edges (take l.b-index l.boundary)
