use Rattle.std.proofs.Common.{refl}
use Rattle.sector_laws.proofs.AtVertex.{at_vertex, one_direction}
use Rattle.sector_laws.proofs.Turning.{direction_total}
use Rattle.plane.specs.Segment.{turn_of}
use Rattle.sector_laws.proofs.direction.direction_law.Goals as goal

pub returns-clause-total : goal.returns-clause-total
returns-clause-total c = direction_total

pub returns-clause-at_vertex : goal.returns-clause-at_vertex
returns-clause-at_vertex c = at_vertex

pub returns-clause-one : goal.returns-clause-one
returns-clause-one c = one_direction

pub returns-clause-examples : goal.returns-clause-examples
unfolding turn_of
returns-clause-examples c = record { first = refl; second = refl; third = refl; fourth = refl; fifth = refl; sixth = refl; seventh = refl; elsewhere = refl }
