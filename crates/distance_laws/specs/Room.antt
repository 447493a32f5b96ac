-- The room of grid points from edges, and of points of the half grid as code computes it.
use Rattle.std.specs.Prelude.{ℕ, ◌*◌, ◌/◌, cond, ℤ, pos, ◌+ℤ◌, ◌-ℤ◌, ◌*ℤ◌, ◌≤ℤ◌, int_le, unsigned_abs}
use Rattle.cov_types.specs.declared.coord.Coord.{Coord}
use Rattle.cov_types.specs.declared.seg.Seg.{Seg}
use Rattle.plane.specs.Point.{Point}
use Rattle.plane.specs.Segment.{IsOn}

-- the squared distance of a grid point and a point, times the square of the point's denominator
unfoldable pub squared_distance : Coord → Point → ℤ
squared_distance q r =
    let dx = (q.x *ℤ pos r.d) -ℤ r.x in
    let dy = (q.y *ℤ pos r.d) -ℤ r.y in
    (dx *ℤ dx) +ℤ (dy *ℤ dy)

-- a grid point has room w from an edge: twice its distance to each point of the edge is w or more
abbrev pub HasRoom : Coord → ℕ → Seg → Type 0
HasRoom q w e = (r : Point) → IsOn e r → (pos (w * w) *ℤ pos (r.d * r.d)) ≤ℤ (pos 4 *ℤ squared_distance q r)

-- a grid point in doubled coordinates
abbrev pub doubled : Coord → Coord
doubled q = record { x = pos 2 *ℤ q.x; y = pos 2 *ℤ q.y }

-- four times the squared distance of c/2 and a point, times the square of the point's denominator
unfoldable pub half_distance : Coord → Point → ℤ
half_distance c r =
    let dx = (c.x *ℤ pos r.d) -ℤ (pos 2 *ℤ r.x) in
    let dy = (c.y *ℤ pos r.d) -ℤ (pos 2 *ℤ r.y) in
    (dx *ℤ dx) +ℤ (dy *ℤ dy)

-- the point c/2 has room w from an edge: twice its distance to each point of the edge is w or more
abbrev pub HasHalfRoom : Coord → ℕ → Seg → Type 0
HasHalfRoom c w e = (r : Point) → IsOn e r → (pos (w * w) *ℤ pos (r.d * r.d)) ≤ℤ half_distance c r

-- four times the squared distance of c/2 and a grid point
unfoldable pub squared_to : Coord → Coord → ℤ
squared_to c a =
    let dx = c.x -ℤ (pos 2 *ℤ a.x) in
    let dy = c.y -ℤ (pos 2 *ℤ a.y) in
    (dx *ℤ dx) +ℤ (dy *ℤ dy)

-- the squared length of an edge
unfoldable pub squared_length : Seg → ℤ
squared_length e =
    let ux = e.hi.x -ℤ e.lo.x in
    let uy = e.hi.y -ℤ e.lo.y in
    (ux *ℤ ux) +ℤ (uy *ℤ uy)

-- where the foot of c/2 is along the edge's line: 0 at lo, and twice the squared length at hi
unfoldable pub foot : Coord → Seg → ℤ
foot c e = ((e.hi.x -ℤ e.lo.x) *ℤ (c.x -ℤ (pos 2 *ℤ e.lo.x))) +ℤ ((e.hi.y -ℤ e.lo.y) *ℤ (c.y -ℤ (pos 2 *ℤ e.lo.y)))

-- twice the distance of c/2 to the edge's line, times the edge's length: positive on the left
unfoldable pub half_side : Coord → Seg → ℤ
half_side c e = ((e.hi.x -ℤ e.lo.x) *ℤ (c.y -ℤ (pos 2 *ℤ e.lo.y))) -ℤ ((e.hi.y -ℤ e.lo.y) *ℤ (c.x -ℤ (pos 2 *ℤ e.lo.x)))

-- four times the squared distance of c/2 and the edge, rounded down: to an end of it, or to its line
abbrev pub reach : Coord → Seg → ℕ
reach c e =
    cond (int_le (foot c e) (pos 0)) (unsigned_abs (squared_to c e.lo))
    (cond (int_le (pos 2 *ℤ squared_length e) (foot c e)) (unsigned_abs (squared_to c e.hi))
    (unsigned_abs (half_side c e *ℤ half_side c e) / unsigned_abs (squared_length e)))
