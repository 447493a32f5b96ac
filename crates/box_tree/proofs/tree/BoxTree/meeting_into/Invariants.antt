use Rattle.std.proofs.Common.{◌≡◌, ◌<◌, length}
use Rattle.box_tree.specs.Levels.{level_at}
use Rattle.box_tree.specs.Places.{places}
use Rattle.box_tree.specs.Probe.{reaches}
use Rattle.box_tree.proofs.tree.BoxTree.meeting_into.Given as goal

abbrev pub invariant-loop-depth : goal.invariant-loop-depth
invariant-loop-depth l = record {
  within : l.depth < length l.self-inside.levels.items;
  places_so_far : l.found.items ≡ places (reaches l.probe) 0 (level_at l.self-inside.levels.items l.depth);
}

abbrev pub decreases-loop-depth : goal.decreases-loop-depth
decreases-loop-depth l = l.depth
