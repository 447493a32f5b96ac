use Rattle.std.proofs.Common.{◌≡◌, ◌+◌, length}
use Rattle.box_tree.specs.Levels.{IsPacked, level_at}
use Rattle.box_tree.proofs.tree.BoxTree.build.Given as goal

abbrev pub invariant-levels : goal.invariant-levels
invariant-levels l = record {
  packed : IsPacked l.levels.items;
  lowest : level_at l.levels.items 0 ≡ l.fn.boxes.items;
  last : l.top + 1 ≡ length l.levels.items;
}

abbrev pub decreases-levels : goal.decreases-levels
decreases-levels l = length (level_at l.levels.items l.top)
