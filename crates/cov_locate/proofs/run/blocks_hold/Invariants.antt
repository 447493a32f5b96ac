use Rattle.std.proofs.Common.{◌≡◌, ◌≤◌, drop, map}
use Rattle.box_tree.specs.Rect.{box_of_segment}
use Rattle.cov_locate.proofs.run.blocks_hold.Given as goal
use Rattle.cov_locate.specs.Blocks.{AreBlocks}
use Rattle.cov_locate.specs.Parts.{AreClear}
use Rattle.cov_types.specs.declared.edge_use.EdgeUse.{EdgeUse}
use Rattle.parity_laws.specs.Runs.{part_holds}
use Rattle.plane.specs.Point.{at_coord}

abbrev pub invariant-loop-block : goal.invariant-loop-block
invariant-loop-block l = (l.run.from ≤ l.from) × AreClear l.outline.uses.items l.run.from l.from l.p × (l.holds ≡ part_holds l.outline.uses.items l.run.from l.from (at_coord l.p))
    × AreBlocks (map (λ (u : EdgeUse). box_of_segment u.seg) l.outline.uses.items) l.from l.run.to l.p (drop l.block-index l.blocks)
