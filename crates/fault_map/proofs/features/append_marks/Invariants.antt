use Rattle.std.proofs.Common.{take}
use Rattle.fault_map.specs.FaultMap.{AreAppended, IsMarkFeature}
use Rattle.fault_map.proofs.features.append_marks.Given as goal

abbrev pub invariant-loop-mark : goal.invariant-loop-mark
invariant-loop-mark l = AreAppended (IsMarkFeature l.uses) (take l.mark-index l.marks) l.initial.features.items l.features.items
