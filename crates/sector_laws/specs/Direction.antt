-- Directions of half-edges, and their order counter-clockwise from straight down.
use Rattle.std.specs.Ordering.{int_cmp, bool_cmp, ordering_then}
use Rattle.std.specs.declared.cmp.Ordering.{Ordering}
use Rattle.cov_types.specs.declared.seg.Seg.{Seg}
use Rattle.plane.specs.Segment.{turn_of}
use Rattle.sector_laws.specs.Sector.{HalfEdge}

-- Less where t, from lo to hi, leads to the left of s: its hi is then farther to the left of the line of s than its lo
abbrev pub turn_cmp : Seg → Seg → Ordering
turn_cmp s t = int_cmp (turn_of s.lo s.hi t.lo) (turn_of s.lo s.hi t.hi)

-- the order of the directions in which half-edges lead: those forwards first, and then by the turn
abbrev pub direction_cmp : HalfEdge → HalfEdge → Ordering
direction_cmp h g = ordering_then (bool_cmp g.forwards h.forwards) (turn_cmp h.edge g.edge)
