use Rattle.std.proofs.Common.{All}
use Rattle.cov_valid.specs.Levels.{IsLevel}
use Rattle.cov_valid.proofs.level.levels_of.Given as goal

abbrev pub invariant-loop-width : goal.invariant-loop-width
invariant-loop-width l = All (IsLevel l.uses) l.levels.items
