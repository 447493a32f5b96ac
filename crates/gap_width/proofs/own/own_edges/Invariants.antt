use Rattle.std.proofs.Common.{take}
use Rattle.gap_width.specs.Own.{AreOfSides}
use Rattle.gap_width.proofs.own.own_edges.Given as goal

abbrev pub invariant-loop-side : goal.invariant-loop-side
invariant-loop-side l = AreOfSides l.edges (take l.side-index l.sides) l.own.items
