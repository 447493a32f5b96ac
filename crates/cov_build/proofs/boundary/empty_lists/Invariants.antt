use Rattle.cov_build.proofs.BoundaryLists.{AreEmpty}
use Rattle.cov_build.proofs.boundary.empty_lists.Given as goal

abbrev pub invariant-loop : goal.invariant-loop
invariant-loop l = AreEmpty l.counter l.lists.items
