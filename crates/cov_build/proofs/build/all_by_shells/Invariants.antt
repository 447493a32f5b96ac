use Rattle.cov_build.specs.Members.{AreSortedMembers}
use Rattle.cov_build.proofs.build.all_by_shells.Given as goal

abbrev pub invariant-loop-member : goal.invariant-loop-member
invariant-loop-member l = AreSortedMembers l.yielded l.sorted.items
