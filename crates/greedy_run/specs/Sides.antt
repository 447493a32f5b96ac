-- The members on the two sides of a line.
use Rattle.std.specs.Prelude.{ℕ, cond, List, Option, option_map, option_and_then, slice_get}
use Rattle.cov_types.specs.declared.coord.Coord.{Coord}
use Rattle.cov_types.specs.declared.edge_use.EdgeUse.{EdgeUse}
use Rattle.cov_types.specs.declared.seg.Seg.{Seg}
use Rattle.cov_types.specs.Coord.{is_same_coord}
use Rattle.plane.specs.Label.{label_at}
use Rattle.plane.specs.Point.{Point}
use Rattle.plane.specs.Segment.{upper, lower}
use Rattle.plane.specs.Snapping.{chain_edges}

-- the member that holds the point, of several the least, and none where none does
abbrev pub holder : List EdgeUse → ℕ → Point → Option ℕ
holder uses members p = slice_get (label_at uses members p) 0

-- the side point on the left of the way from this end of the edge
abbrev pub left_from : Coord → Seg → Point
left_from a e = cond (is_same_coord a e.lo) (upper e) (lower e)

-- and that on the right
abbrev pub right_from : Coord → Seg → Point
right_from a e = cond (is_same_coord a e.lo) (lower e) (upper e)

-- the side point of the first segment of a line
abbrev pub beside_first : (Coord → Seg → Point) → List Coord → Option Point
beside_first beside points = option_and_then (λ a. option_map (beside a) (slice_get (chain_edges points) 0)) (slice_get points 0)

-- the member on the left of a line: the holder of the side point on the left of its first segment
abbrev pub left_member : List EdgeUse → ℕ → List Coord → Option ℕ
left_member uses members points = option_and_then (holder uses members) (beside_first left_from points)

-- the member on its right
abbrev pub right_member : List EdgeUse → ℕ → List Coord → Option ℕ
right_member uses members points = option_and_then (holder uses members) (beside_first right_from points)
