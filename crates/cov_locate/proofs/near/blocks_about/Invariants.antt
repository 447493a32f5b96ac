use Rattle.std.proofs.Common.{◌≤◌, ◌-◌, ◌++◌, List, map}
use Rattle.box_tree.specs.Rect.{IsInside, box_of_point, box_of_segment}
use Rattle.cov_locate.proofs.near.blocks_about.Given as goal
use Rattle.cov_locate.specs.Blocks.{AreBlocks}
use Rattle.cov_locate.specs.declared.block.Block.{Block}
use Rattle.cov_types.specs.declared.coord.Coord.{Coord}
use Rattle.cov_types.specs.declared.edge_use.EdgeUse.{EdgeUse}

abbrev pub decreases-loop-from : goal.decreases-loop-from
decreases-loop-from l = l.run.to - l.from

abbrev pub invariant-loop-from : goal.invariant-loop-from
invariant-loop-from l = (l.from ≤ l.run.to) × ((p : Coord) → IsInside (box_of_point p) l.round → (later : List Block) → AreBlocks (map (λ (u : EdgeUse). box_of_segment u.seg) l.outline.uses.items) l.from l.run.to p later
    → AreBlocks (map (λ (u : EdgeUse). box_of_segment u.seg) l.outline.uses.items) l.run.from l.run.to p (l.blocks.items ++ later))
