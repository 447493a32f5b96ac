use Rattle.sound_polygons.proofs.Angles.{angle_is_sector}
use Rattle.sound_polygons.proofs.laws.angle_law.Goals as goal

pub returns : goal.returns
returns c = angle_is_sector
