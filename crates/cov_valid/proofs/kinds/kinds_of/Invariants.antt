use Rattle.std.proofs.Common.{length, drop}
use Rattle.cov_valid.proofs.kinds.kinds_of.Given as goal
use Rattle.cov_valid.specs.Groups.{AreGroupsInRow}
use Rattle.cov_valid.specs.Judged.{AreJudged}

abbrev pub invariant-loop-k : goal.invariant-loop-k
invariant-loop-k l = AreJudged l.outline.uses.items l.entries (length l.kinds.items) l.kinds.items × AreGroupsInRow (length l.kinds.items) (drop l.k l.groups) (length l.entries)
