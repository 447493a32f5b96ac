use Rattle.jittered_grid.proofs.Cells.{IsPartGrid}
use Rattle.jittered_grid.proofs.grid.jittered_cells.Given as goal

abbrev pub invariant-loop-row : goal.invariant-loop-row
invariant-loop-row l = IsPartGrid l.side l.seed l.row l.draws l.members.items
