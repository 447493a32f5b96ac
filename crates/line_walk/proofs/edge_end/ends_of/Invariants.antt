use Rattle.std.proofs.Common.{◌≡◌, take}
use Rattle.line_walk.specs.Ends.{ends_from}
use Rattle.line_walk.proofs.edge_end.ends_of.Given as goal

abbrev pub invariant-loop-k : goal.invariant-loop-k
invariant-loop-k l = l.ends.items ≡ ends_from 0 (take l.k l.edges)
