use Rattle.cov_cells.proofs.cells.Cells.remove.Given as goal

abbrev pub ghosts-without : goal.ghosts-without
ghosts-without a = record { slots = a.slots.items; point = a.point }
