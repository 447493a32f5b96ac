use Rattle.std.proofs.Common.{take}
use Rattle.box_tree.specs.Rect.{IsInside}
use Rattle.gap_width.proofs.Round.{AreInside, whole}
use Rattle.gap_width.proofs.block.hull_of_edges.Given as goal

abbrev pub invariant-loop-o : goal.invariant-loop-o
invariant-loop-o l = record {
  each : AreInside (take l.o-index l.own) l.hull;
  within : IsInside l.hull whole;
}
