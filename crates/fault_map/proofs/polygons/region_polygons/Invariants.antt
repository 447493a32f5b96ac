use Rattle.std.proofs.Common.{length, ◌-◌}
use Rattle.fault_map.proofs.Pieces.{AreDone}
use Rattle.fault_map.proofs.polygons.region_polygons.Given as goal

abbrev pub invariant-piece : goal.invariant-piece
invariant-piece l = AreDone l.a l.listed l.found.items

abbrev pub decreases-piece : goal.decreases-piece
decreases-piece l = length l.listed - length l.found.items
