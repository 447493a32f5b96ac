use Rattle.std.proofs.Common.{All}
use Rattle.cov_locate.specs.Levels.{IsLevel}
use Rattle.cov_locate.proofs.level.levels_of.Given as goal

abbrev pub invariant-loop-width : goal.invariant-loop-width
invariant-loop-width l = All (IsLevel l.boxes) l.levels.items
