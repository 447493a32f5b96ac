use Rattle.std.proofs.Common.{take}
use Rattle.cover_cli.specs.Lines.{AreMemberLists}
use Rattle.cover_cli.proofs.lines.lists_by_member.Given as goal

abbrev pub invariant-loop-edge : goal.invariant-loop-edge
invariant-loop-edge l = AreMemberLists (take l.edge-index l.uses) l.members l.lists.items
