use Rattle.std.proofs.Common.{◌+◌, ◌-◌, length}
use Rattle.owner_label.specs.Members.{members_at}
use Rattle.owner_label.proofs.Merging.{IsMerging}
use Rattle.owner_label.proofs.toggle.append_toggled.Given as goal

abbrev pub invariant-loop-i : goal.invariant-loop-i
invariant-loop-i l = IsMerging l.fn.list.items l.label (members_at l.odd l.places) l.list.items l.i l.j

abbrev pub decreases-loop-i : goal.decreases-loop-i
decreases-loop-i l = (l.label.to + length l.places) - (l.i + l.j)
