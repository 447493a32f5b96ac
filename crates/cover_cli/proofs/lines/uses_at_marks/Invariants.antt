use Rattle.std.proofs.Common.{◌≡◌, take}
use Rattle.cover_cli.specs.Lines.{marked_uses}
use Rattle.cover_cli.proofs.lines.uses_at_marks.Given as goal

abbrev pub invariant-loop-mark : goal.invariant-loop-mark
invariant-loop-mark l = l.marked.items ≡ marked_uses l.uses (take l.mark-index l.marks)
