use Rattle.std.proofs.Common.{take}
use Rattle.line_walk.specs.Line.{IsMarkedBy}
use Rattle.line_walk.proofs.lines.mark.Given as goal

abbrev pub invariant-loop-k : goal.invariant-loop-k
invariant-loop-k l = IsMarkedBy (take l.k-index l.places) l.fn.seen l.seen
