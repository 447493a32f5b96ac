use Rattle.std.proofs.Common.{[]}
use Rattle.cover_cli.specs.Lines.{AreMemberLists}
use Rattle.cover_cli.proofs.lines.empty_lists.Given as goal

abbrev pub invariant-loop : goal.invariant-loop
invariant-loop l = AreMemberLists [] l.counter l.lists.items
