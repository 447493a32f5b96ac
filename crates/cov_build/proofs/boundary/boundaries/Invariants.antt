use Rattle.std.proofs.Common.{take}
use Rattle.cov_build.specs.Boundaries.{AreBoundaries}
use Rattle.cov_build.proofs.boundary.boundaries.Given as goal

abbrev pub invariant-loop-k : goal.invariant-loop-k
invariant-loop-k l = AreBoundaries l.parts (take l.k l.edges) l.lists.items
