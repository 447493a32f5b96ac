use Rattle.cov_valid.specs.Parts.{IsRunPart}
use Rattle.cov_valid.proofs.run.widest_block.Given as goal

abbrev pub invariant-loop-level : goal.invariant-loop-level
invariant-loop-level l = IsRunPart l.outline l.run l.from l.s l.part
