use Rattle.std.proofs.Common.{◌≡◌, take}
use Rattle.cov_build.specs.Boundaries.{boundary_edges}
use Rattle.cov_build.proofs.polygon.has_edges.Given as goal

abbrev pub invariant-loop-k : goal.invariant-loop-k
invariant-loop-k l = take l.k l.edges ≡ boundary_edges (take l.k l.boundary)
