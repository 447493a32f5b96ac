use Rattle.region_owners.proofs.OwnEdges.{edge_under, edge_over}
use Rattle.region_owners.proofs.RegionBox.{in_box}
use Rattle.region_owners.proofs.Searched.{clearance_exists}
use Rattle.region_owners.proofs.laws.box_law.Goals as goal

pub returns-clause-under : goal.returns-clause-under
returns-clause-under c = λ edges planar distinct r inner p own. (let found = edge_under edges planar distinct r inner p own in (found.0, (found.1.0, found.1.1)))

pub returns-clause-over : goal.returns-clause-over
returns-clause-over c = edge_over

pub returns-clause-inside : goal.returns-clause-inside
returns-clause-inside c = in_box

pub returns-clause-clearance : goal.returns-clause-clearance
returns-clause-clearance c = clearance_exists
