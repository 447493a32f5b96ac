-- Directed edges of the code as half-edges.
use Rattle.half_edge.specs.declared.directed.DirectedEdge.{DirectedEdge}
use Rattle.half_edge.specs.declared.direction.Direction.{Direction}
use Rattle.sector_laws.specs.Sector.{HalfEdge}

-- the half-edge that the code's directed edge is
abbrev pub half_edge_of : DirectedEdge → HalfEdge
half_edge_of d = record { edge = d.edge; forwards = d.forwards }

-- the half-edge whose direction it is
abbrev pub half_edge_to : Direction → HalfEdge
half_edge_to d = half_edge_of d.of
