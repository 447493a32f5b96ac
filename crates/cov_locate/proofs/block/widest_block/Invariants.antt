use Rattle.std.proofs.Common.{◌≡◌, ◌+◌, ◌<◌, ◌≤◌, List, All, length}
use Rattle.box_tree.specs.Rect.{IsInside, box_of_point}
use Rattle.cov_types.specs.declared.coord.Coord.{Coord}
use Rattle.box_tree.specs.declared.rect.Rect.{Rect}
use Rattle.cov_locate.specs.Blocks.{IsBlock}
use Rattle.cov_locate.specs.declared.block.Placed.TheVariants.{Near}
use Rattle.cov_locate.specs.Levels.{IsLevel}
use Rattle.cov_locate.proofs.block.widest_block.Given as goal

abbrev pub invariant-loop-level : goal.invariant-loop-level
invariant-loop-level l = (l.from < l.block.to) × (l.block.to ≤ l.end) × (l.block.placed ≡ Near → l.block.to ≡ l.from + 1) × ((boxes : List Rect) (p : Coord) → All (IsLevel boxes) l.levels → l.end ≤ length boxes → IsInside (box_of_point p) l.round → IsBlock boxes l.from l.end p l.block)
