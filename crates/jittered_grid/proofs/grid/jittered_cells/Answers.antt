use Rattle.std.proofs.Common.{◌≡◌, arith, subst, sym}
use Rattle.cov_types.specs.Coverage.{IsFormed}
use Rattle.jittered_grid.proofs.Cells.{grid-more, grid-cells}
use Rattle.jittered_grid.proofs.Shapes.{cells-formed}
use Rattle.jittered_grid.proofs.grid.jittered_cells.Goals as goal

pub loop-row-preserved : goal.loop-row-preserved
loop-row-preserved c =
    grid-more c.args.side c.args.seed c.loop-row.row c.loop-row.draws c.add_row.new.draws c.loop-row.members.items c.add_row.new.members.items
    c.in_ok-add_row.ensures.cells c.in_ok-add_row.ensures.drawn c.loop-row.invariant

pub returns-clause-formed : goal.returns-clause-formed
returns-clause-formed c =
    let end : c.loop-row.row ≡ c.args.side = omega (arith, c.loop-row-test.false, c.loop-row.auto.row-end) in
    let all = grid-cells c.args.side c.args.seed c.loop-row.row c.loop-row.draws c.loop-row.members.items end c.loop-row.invariant in
    subst IsFormed (sym all) (cells-formed c.args.side c.args.seed c.requires)
