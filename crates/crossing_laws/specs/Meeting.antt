-- Two segments that lie on opposite sides of each other, and the point where they meet.
use Rattle.std.specs.Prelude.{◌≡◌, ℕ, ◌+◌, ◌*◌, ℤ, pos, ◌+ℤ◌, ◌-ℤ◌, ◌*ℤ◌, ◌≤ℤ◌, ◌<ℤ◌, ◌⊎◌}
use Rattle.cov_types.specs.declared.coord.Coord.{Coord}
use Rattle.cov_types.specs.declared.seg.Seg.{Seg}
use Rattle.plane.specs.Point.{Point, IsBetween}
use Rattle.plane.specs.Segment.{IsOn}

-- the side of a grid point against the way from p to q, times their denominators: positive on the left, 0 on the line
unfoldable pub side_from : Point → Point → Coord → ℤ
side_from p q v = ((p.x *ℤ (q.y -ℤ (pos q.d *ℤ v.y))) -ℤ (p.y *ℤ (q.x -ℤ (pos q.d *ℤ v.x)))) +ℤ (pos p.d *ℤ ((q.x *ℤ v.y) -ℤ (q.y *ℤ v.x)))

-- of two sides one is not positive and the other is not negative
abbrev pub IsOpposite : ℤ → ℤ → Type 0
IsOpposite a b = ((a ≤ℤ pos 0) × (pos 0 ≤ℤ b)) ⊎ ((b ≤ℤ pos 0) × (pos 0 ≤ℤ a))

-- of two sides one is negative and the other is positive
abbrev pub IsStrictlyOpposite : ℤ → ℤ → Type 0
IsStrictlyOpposite a b = ((a <ℤ pos 0) × (pos 0 <ℤ b)) ⊎ ((b <ℤ pos 0) × (pos 0 <ℤ a))

-- the four numbers are 0
pub record AreZero (a b c d : ℤ) : Type 0 where
  pub first : a ≡ pos 0
  pub second : b ≡ pos 0
  pub third : c ≡ pos 0
  pub fourth : d ≡ pos 0

-- r is the mean of p and q with these whole weights, written as the sum of the two
pub record IsSumOf (r p q : Point) (first second : ℕ) : Type 0 where
  pub x : r.x ≡ (pos first *ℤ p.x) +ℤ (pos second *ℤ q.x)
  pub y : r.y ≡ (pos first *ℤ p.y) +ℤ (pos second *ℤ q.y)
  pub d : r.d ≡ first * p.d + second * q.d

-- r is the mean of p and q with these weights, and a point of the segment
pub record IsMeeting (s : Seg) (p q : Point) (first second : ℕ) (r : Point) : Type 0 where
  pub sum : IsSumOf r p q first second
  pub between : IsBetween r p q
  pub on_segment : IsOn s r
