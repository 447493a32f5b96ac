use Rattle.region_laws.proofs.Links.{link_down, link_out, linked_joined, out_side}
use Rattle.region_laws.proofs.link.link_law.Goals as goal

pub returns-clause-down : goal.returns-clause-down
returns-clause-down c = link_down

pub returns-clause-out : goal.returns-clause-out
returns-clause-out c = link_out

pub returns-clause-linked : goal.returns-clause-linked
returns-clause-linked c = linked_joined

pub returns-clause-outer : goal.returns-clause-outer
returns-clause-outer c = out_side
