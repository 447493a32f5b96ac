use Rattle.std.proofs.Common.{ℕ, List}
use Rattle.plane.specs.Region.{AreRegions}
use Rattle.cov_marks.proofs.Beside.{AreBesideBefore, IsAscendingTo}
use Rattle.cov_marks.proofs.edges.edges_beside.Given as goal

abbrev pub invariant-loop-k : goal.invariant-loop-k
invariant-loop-k l = record {
  ascending : IsAscendingTo l.edges l.k l.beside.items;
  exact : (numbers : List ℕ) → AreRegions l.edges numbers → AreBesideBefore l.edges numbers l.regions l.k l.beside.items;
}
