use Rattle.std.proofs.Common.{◌≡◌, ◌++◌, take}
use Rattle.std.specs.Prelude.{flat_map}
use Rattle.box_tree.specs.Probe.{reaches}
use Rattle.box_tree.proofs.Descent.{block_places}
use Rattle.box_tree.proofs.tree.add_children.Given as goal

abbrev pub invariant-loop-j : goal.invariant-loop-j
invariant-loop-j l = l.found.items ≡ l.fn.found.items ++ flat_map (block_places (reaches l.probe) l.level) (take l.j-index l.blocks)
