use Rattle.part_polygons.proofs.Begins.{begins_at_least}
use Rattle.part_polygons.proofs.Sound.{sound}
use Rattle.part_polygons.proofs.laws.sound_law.Goals as goal

pub returns-clause-sound : goal.returns-clause-sound
returns-clause-sound c = sound

pub returns-clause-begins : goal.returns-clause-begins
returns-clause-begins c = begins_at_least
