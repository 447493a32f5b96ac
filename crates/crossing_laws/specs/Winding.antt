-- The sides of closed rings as weighted edges, which add up to how often the rings wind round a point.
use Rattle.std.specs.Prelude.{cond, List, map, flat_map, option_to_list, ℤ, pos, negsuc}
use Rattle.cov_types.specs.declared.coord.Coord.{Coord}
use Rattle.cov_types.specs.Coord.{is_before}
use Rattle.cov_types.specs.Uses.{sides, seg_between}
use Rattle.crossing_laws.specs.Crossing.{WeightedEdge, crossing_sum}
use Rattle.plane.specs.Point.{Point}

-- the segment of a side: with the weight -1 where the side leads from lo to hi, and 1 where it leads back
abbrev pub side_weights : Coord × Coord → List WeightedEdge
side_weights side = map (λ s. record { edge = s; weight = cond (is_before side.0 side.1) (negsuc 0) (pos 1) }) (option_to_list (seg_between side.0 side.1))

-- the sides of a ring, of a polygon's rings, of a member's polygons, of a coverage's members
abbrev pub ring_weights : List Coord → List WeightedEdge
ring_weights points = flat_map side_weights (sides points)

-- those of a polygon's rings
abbrev pub poly_weights : List (List Coord) → List WeightedEdge
poly_weights rings = flat_map ring_weights rings

-- those of a member's polygons
abbrev pub member_weights : List (List (List Coord)) → List WeightedEdge
member_weights polys = flat_map poly_weights polys

-- those of a coverage's members
abbrev pub coverage_weights : List (List (List (List Coord))) → List WeightedEdge
coverage_weights members = flat_map member_weights members

-- how often the ring winds round p, counter-clockwise
abbrev pub winding : List Coord → Point → ℤ
winding points p = crossing_sum (ring_weights points) p
