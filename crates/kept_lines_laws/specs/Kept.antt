-- What is kept of a line while its points go.
use Rattle.std.specs.Prelude.{◌≡◌, ◌-◌, List, length, slice_get}
use Rattle.cov_types.specs.declared.coord.Coord.{Coord}

-- both ends of the line are those of what is left of it
pub record KeepsEnds (points left : List Coord) : Type 0 where
  pub first : slice_get left 0 ≡ slice_get points 0
  pub last : slice_get left (length left - 1) ≡ slice_get points (length points - 1)
