-- Rational points of the plane.
use Rattle.std.specs.Prelude.{◌≡◌, ℕ, ◌+◌, ◌*◌, ◌≤◌, ℤ, pos, ◌+ℤ◌, ◌*ℤ◌}
use Rattle.std.proofs.Common.{lit≤}
use Rattle.cov_types.specs.declared.coord.Coord.{Coord}

-- the point (x/d, y/d)
pub record Point : Type 0 where
  pub x : ℤ
  pub y : ℤ
  pub d : ℕ
  pub positive : 1 ≤ d

-- a grid point as a rational point
abbrev pub at_coord : Coord → Point
at_coord c = record { x = c.x; y = c.y; d = 1; positive = lit≤ tt }

-- p and q are one point: the records 1/2 and 2/4 differ, their points do not
abbrev pub SamePoint : Point → Point → Type 0
SamePoint p q = (p.x *ℤ pos q.d ≡ q.x *ℤ pos p.d) × (p.y *ℤ pos q.d ≡ q.y *ℤ pos p.d)

-- r is on the closed segment from p to q: a mean of the two with whole weights that are not both 0
pub record IsBetween (r p q : Point) : Type 0 where
  pub first : ℕ
  pub second : ℕ
  pub weighted : 1 ≤ first + second
  pub x : r.x *ℤ pos (first * p.d + second * q.d) ≡ pos r.d *ℤ (pos first *ℤ p.x +ℤ pos second *ℤ q.x)
  pub y : r.y *ℤ pos (first * p.d + second * q.d) ≡ pos r.d *ℤ (pos first *ℤ p.y +ℤ pos second *ℤ q.y)
