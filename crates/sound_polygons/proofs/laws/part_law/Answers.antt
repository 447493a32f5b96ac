use Rattle.sound_polygons.proofs.Reached.{part_exists}
use Rattle.sound_polygons.proofs.SameParts.{part_equivalence}
use Rattle.sound_polygons.proofs.laws.part_law.Goals as goal

pub returns-clause-disjoint : goal.returns-clause-disjoint
returns-clause-disjoint c = part_equivalence

pub returns-clause-exist : goal.returns-clause-exist
returns-clause-exist c = part_exists
