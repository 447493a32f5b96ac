use Rattle.jittered_grid.proofs.Cells.{row-more}
use Rattle.jittered_grid.proofs.grid.add_row.Goals as goal

pub loop-column-preserved : goal.loop-column-preserved
loop-column-preserved c =
    rw (c.in_ok-push.ensures.items) (row-more c.args.side c.args.row c.loop-column.column c.args.draws.now c.loop-column.draws c.cell.new.draws c.args.members.now.items c.loop-column.members.items
    c.in_ok-cell.field-0 c.in_ok-cell.ensures.member c.cell.ensures.drawn c.loop-column.invariant)
