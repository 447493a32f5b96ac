-- How large the numbers of the predicates are, where coordinates are in range, from -2^28 to 2^28.
use Rattle.std.specs.Prelude.{◌^◌, pos, ◌+ℤ◌, ◌-ℤ◌, ◌*ℤ◌}
use Rattle.integer_laws.specs.Bound.{IsWithin}
use Rattle.cov_types.specs.declared.coord.Coord.{Coord}
use Rattle.cov_types.specs.declared.seg.Seg.{Seg}
use Rattle.cov_types.specs.Range.{IsInRange, IsSegInRange}
use Rattle.plane.specs.Point.{at_coord}
use Rattle.plane.specs.Segment.{turn_of, side}
use Rattle.plane.specs.Below.{sweep_rise}
use Rattle.grid_pred.specs.declared.cross.Cross.{Cross}
use Rattle.grid_pred.specs.Crossing.{IsCrossInRange}

-- a turn is below 2^60, so 64 bits hold it
abbrev pub TurnSize : Type 0
TurnSize = (a b c : Coord) → IsInRange a → IsInRange b → IsInRange c → IsWithin (2 ^ 59) (turn_of a b c)

-- four times its square is below 2^122, so 128 bits hold it
abbrev pub SquareSize : Type 0
SquareSize = (a b c : Coord) → IsInRange a → IsInRange b → IsInRange c → IsWithin (2 ^ 120) (pos 4 *ℤ (turn_of a b c *ℤ turn_of a b c))

-- how much the sweep value grows along a segment: 64 bits
abbrev pub RiseSize : Type 0
RiseSize = (s : Seg) → IsSegInRange s → IsWithin (2 ^ 60) (sweep_rise s)

-- how far a point is above one edge, times the rise of another: 128 bits
abbrev pub DepthSize : Type 0
DepthSize = (e f : Seg) (v : Coord) → IsSegInRange e → IsSegInRange f → IsInRange v → IsWithin (2 ^ 119) (side e (at_coord v) *ℤ sweep_rise f)

-- the numbers of a crossing: 128 bits
pub record IsCrossSmall (c : Cross) : Type 0 where
  pub x : IsWithin (2 ^ 88) c.num_x
  pub y : IsWithin (2 ^ 88) c.num_y
  pub d : IsWithin (2 ^ 60) c.den

-- and this is so of each crossing in range
abbrev pub CrossSize : Type 0
CrossSize = (c : Cross) → IsCrossInRange c → IsCrossSmall c

-- the square of the length of a segment: 64 bits
abbrev pub LengthSize : Type 0
LengthSize = (s : Seg) → IsSegInRange s → IsWithin (2 ^ 59) (((s.hi.x -ℤ s.lo.x) *ℤ (s.hi.x -ℤ s.lo.x)) +ℤ ((s.hi.y -ℤ s.lo.y) *ℤ (s.hi.y -ℤ s.lo.y)))
