use Rattle.std.proofs.Common.{length, ◌-◌}
use Rattle.cov_valid.proofs.Grouping.{AreGroupsTo}
use Rattle.cov_valid.proofs.group.groups_of.Given as goal

abbrev pub decreases-loop-from : goal.decreases-loop-from
decreases-loop-from l = length l.entries - l.from

abbrev pub invariant-loop-from : goal.invariant-loop-from
invariant-loop-from l = AreGroupsTo l.entries l.groups.items l.from
