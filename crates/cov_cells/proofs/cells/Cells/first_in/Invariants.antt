use Rattle.cov_cells.proofs.cells.Cells.first_in.Given as goal

abbrev pub ghosts-first_wanted : goal.ghosts-first_wanted
ghosts-first_wanted a = record { slots = a.slots.now; wanted = a.wanted }
