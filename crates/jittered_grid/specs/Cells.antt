-- A grid of square cells, whose corners are jittered by draws, anew for each cell.
use Rattle.std.specs.Prelude.{ℕ, ◌+◌, ◌*◌, ℤ, pos, ◌+ℤ◌, List, [], ◌∷◌, map, flat_map}
use Rattle.std.specs.List.{range_with_len}
use Rattle.cov_types.specs.Coverage.{Members}
use Rattle.cov_types.specs.declared.coord.Coord.{Coord}
use Rattle.jittered_grid.specs.Draws.{draw}

-- the coordinate of a line of the grid, moved by the draw of this number; the lines are 64 units apart
abbrev pub jittered : ℕ → ℕ → ℕ → ℤ
jittered seed number line = pos (64 * line) +ℤ draw seed number

-- the corner at a column and a row, moved by two draws that follow one another: the first moves x, the second y
abbrev pub corner : ℕ → ℕ → ℕ → ℕ → Coord
corner seed number column row = record { x = jittered seed number column; y = jittered seed (number + 1) row }

-- the ring round the cell at a column and a row, whose eight draws begin with this number
abbrev pub ring : ℕ → ℕ → ℕ → ℕ → List Coord
ring seed number column row =
    corner seed number column row ∷ corner seed (number + 2) (column + 1) row ∷ corner seed (number + 4) (column + 1) (row + 1) ∷ corner seed (number + 6) column (row + 1) ∷ []

-- the member of a cell of a grid with so many on a side: one polygon with one ring. The cells draw one after the other, row by row, eight draws each
abbrev pub cell : ℕ → ℕ → ℕ → ℕ → List (List (List Coord))
cell side seed row column = (ring seed (8 * (row * side + column)) column row ∷ []) ∷ []

-- the cells of a row, by their columns
abbrev pub cells_in_row : ℕ → ℕ → ℕ → Members
cells_in_row side seed row = map (cell side seed row) (range_with_len 0 side)

-- the cells of the grid, row by row
abbrev pub cells : ℕ → ℕ → Members
cells side seed = flat_map (cells_in_row side seed) (range_with_len 0 side)
