-- Points of the half grid near one another.
use Rattle.std.specs.Prelude.{ℕ, ◌*◌, ℤ, pos, ◌+ℤ◌, ◌-ℤ◌, ◌*ℤ◌, ◌≤ℤ◌}
use Rattle.cov_types.specs.declared.coord.Coord.{Coord}
use Rattle.cov_types.specs.declared.seg.Seg.{Seg}
use Rattle.distance_laws.specs.Room.{half_distance}
use Rattle.plane.specs.Point.{Point}
use Rattle.plane.specs.Segment.{IsOn}

-- in doubled coordinates, q is within s of c
abbrev pub IsNear : Coord → Coord → ℕ → Type 0
IsNear c q s = (((q.x -ℤ c.x) *ℤ (q.x -ℤ c.x)) +ℤ ((q.y -ℤ c.y) *ℤ (q.y -ℤ c.y))) ≤ℤ pos (s * s)

-- four times the squared distance of c/2 to each point of the edge is n/m or more
abbrev pub IsAsFar : Coord → ℤ → ℤ → Seg → Type 0
IsAsFar c n m e = (r : Point) → IsOn e r → (n *ℤ pos (r.d * r.d)) ≤ℤ (m *ℤ half_distance c r)
