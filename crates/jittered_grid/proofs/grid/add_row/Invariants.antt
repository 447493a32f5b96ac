use Rattle.jittered_grid.proofs.Cells.{IsPartRow}
use Rattle.jittered_grid.proofs.grid.add_row.Given as goal

abbrev pub invariant-loop-column : goal.invariant-loop-column
invariant-loop-column l = IsPartRow l.side l.row l.column l.initial.draws l.draws l.initial.members.items l.members.items
