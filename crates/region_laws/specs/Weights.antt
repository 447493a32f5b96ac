-- Weights of edges from a test on their sides.
use Rattle.std.specs.Prelude.{Bool, true, false, cond, List, map, ℤ, pos, ◌-ℤ◌}
use Rattle.cov_types.specs.declared.seg.Seg.{Seg}
use Rattle.crossing_laws.specs.Crossing.{WeightedEdge}
use Rattle.sector_laws.specs.Sector.{HalfEdge}

-- 1 where the side on the left of the half-edge passes the test
abbrev pub side_weight : (HalfEdge → Bool) → HalfEdge → ℤ
side_weight passes h = pos (cond (passes h) 1 0)

-- each edge with what its lower side weighs more than its upper side
abbrev pub weigh_sides : (HalfEdge → Bool) → List Seg → List WeightedEdge
weigh_sides passes edges = map (λ e. record { edge = e; weight = side_weight passes (record { edge = e; forwards = false }) -ℤ side_weight passes (record { edge = e; forwards = true }) }) edges
