use Rattle.std.proofs.Common.{◌≡◌, ◌++◌, take}
use Rattle.box_tree.specs.Places.{places}
use Rattle.box_tree.specs.Probe.{reaches}
use Rattle.box_tree.proofs.scan.add_places.Given as goal

abbrev pub invariant-loop-i : goal.invariant-loop-i
invariant-loop-i l = l.found.items ≡ l.fn.found.items ++ places (reaches l.probe) l.first (take l.i l.boxes)
