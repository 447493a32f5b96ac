-- Points of the half grid.
use Rattle.std.specs.Prelude.{◌^◌}
use Rattle.integer_laws.specs.Bound.{IsWithin}
use Rattle.cov_types.specs.declared.coord.Coord.{Coord}

-- the point c/2 is in range: in doubled coordinates both numbers are from -2·LIMIT to 2·LIMIT, which is 2^29
pub record IsHalfInRange (c : Coord) : Type 0 where
  pub x : IsWithin (2 ^ 29) c.x
  pub y : IsWithin (2 ^ 29) c.y
