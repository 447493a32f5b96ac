-- Blocks of grid points and their centres.
use Rattle.std.specs.Prelude.{ℤ, pos, ◌+ℤ◌, ◌*ℤ◌, ◌≤ℤ◌}
use Rattle.cov_types.specs.declared.coord.Coord.{Coord}

-- in doubled coordinates, c is in the block of grid points from lo to hi
pub record IsInBlock (lo hi c : Coord) : Type 0 where
  pub left : (pos 2 *ℤ lo.x) ≤ℤ c.x
  pub right : c.x ≤ℤ (pos 2 *ℤ hi.x)
  pub bottom : (pos 2 *ℤ lo.y) ≤ℤ c.y
  pub top : c.y ≤ℤ (pos 2 *ℤ hi.y)

-- its centre, in doubled coordinates
abbrev pub centre : Coord → Coord → Coord
centre lo hi = record { x = lo.x +ℤ hi.x; y = lo.y +ℤ hi.y }

-- a corner, in doubled coordinates
abbrev pub corner : ℤ → ℤ → Coord
corner x y = record { x = pos 2 *ℤ x; y = pos 2 *ℤ y }

-- so much is true of each of its corners
pub record AtCorners (lo hi : Coord) (holds : Coord → Type 0) : Type 0 where
  pub low_left : holds (corner lo.x lo.y)
  pub low_right : holds (corner hi.x lo.y)
  pub high_left : holds (corner lo.x hi.y)
  pub high_right : holds (corner hi.x hi.y)
