use Rattle.std.proofs.Common.{take}
use Rattle.cov_valid.specs.Levels.{IsAbout}
use Rattle.cov_valid.proofs.level.box_about.Given as goal

abbrev pub invariant-loop-u : goal.invariant-loop-u
invariant-loop-u l = IsAbout (take l.u-index l.uses) l.all
