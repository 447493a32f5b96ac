-- The laws of room: points of the half grid, and the whole number that tells their room.
use Rattle.std.specs.Prelude.{ℕ, ◌*◌, ◌≤◌, ◌↔◌}
use Rattle.cov_types.specs.declared.coord.Coord.{Coord}
use Rattle.cov_types.specs.declared.seg.Seg.{Seg}
use Rattle.distance_laws.specs.Room.{HasRoom, doubled, HasHalfRoom, reach}

-- the room of a grid point is that of its doubled coordinates
abbrev pub DoubledLaw : Type 0
DoubledLaw = (q : Coord) (w : ℕ) (e : Seg) → HasRoom q w e ↔ HasHalfRoom (doubled q) w e

-- a point of the half grid has room w from an edge where the square of w is not past its reach
abbrev pub ReachLaw : Type 0
ReachLaw = (c : Coord) (w : ℕ) (e : Seg) → HasHalfRoom c w e ↔ (w * w ≤ reach c e)
