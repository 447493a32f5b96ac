-- Points of a segment, the side of a point, and the points beside a segment.
use Rattle.std.specs.Prelude.{◌^◌, ℤ, pos, ◌+ℤ◌, ◌-ℤ◌, ◌*ℤ◌, ◌⊎◌}
use Rattle.std.proofs.Common.{lit≤}
use Rattle.cov_types.specs.declared.coord.Coord.{Coord}
use Rattle.cov_types.specs.declared.seg.Seg.{Seg}
use Rattle.plane.specs.Point.{Point, at_coord, SamePoint, IsBetween}

-- r is a point of the segment, its ends included
abbrev pub IsOn : Seg → Point → Type 0
IsOn s r = IsBetween r (at_coord s.lo) (at_coord s.hi)

-- r is an end of the segment
abbrev pub IsEnd : Seg → Point → Type 0
IsEnd s r = SamePoint r (at_coord s.lo) ⊎ SamePoint r (at_coord s.hi)

-- twice the area of the triangle abc: positive where c is on the left of a to b
unfoldable pub turn_of : Coord → Coord → Coord → ℤ
turn_of a b c = ((b.x -ℤ a.x) *ℤ (c.y -ℤ a.y)) -ℤ ((b.y -ℤ a.y) *ℤ (c.x -ℤ a.x))

-- the same for a rational point, times its denominator: positive on the left of lo to hi, 0 on their line
unfoldable pub side : Seg → Point → ℤ
side s p = ((s.hi.x -ℤ s.lo.x) *ℤ (p.y -ℤ (s.lo.y *ℤ pos p.d))) -ℤ ((s.hi.y -ℤ s.lo.y) *ℤ (p.x -ℤ (s.lo.x *ℤ pos p.d)))

-- the midpoint of the segment
abbrev pub midpoint : Seg → Point
midpoint s = record { x = s.lo.x +ℤ s.hi.x; y = s.lo.y +ℤ s.hi.y; d = 2; positive = lit≤ tt }

-- the side point above the segment: its midpoint plus (-1, 2^30) / 2^64
abbrev pub upper : Seg → Point
upper s = record { x = (pos (2 ^ 63) *ℤ (s.lo.x +ℤ s.hi.x)) -ℤ pos 1; y = (pos (2 ^ 63) *ℤ (s.lo.y +ℤ s.hi.y)) +ℤ pos (2 ^ 30); d = 2 ^ 64; positive = lit≤ tt }

-- the side point below the segment: its midpoint minus (-1, 2^30) / 2^64
abbrev pub lower : Seg → Point
lower s = record { x = (pos (2 ^ 63) *ℤ (s.lo.x +ℤ s.hi.x)) +ℤ pos 1; y = (pos (2 ^ 63) *ℤ (s.lo.y +ℤ s.hi.y)) -ℤ pos (2 ^ 30); d = 2 ^ 64; positive = lit≤ tt }
