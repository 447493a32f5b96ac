use Rattle.sound_polygons.proofs.OneCleaned.{one_built}
use Rattle.sound_polygons.proofs.OnePolygon.{one_polygon}
use Rattle.sound_polygons.proofs.laws.polygon_law.Goals as goal

pub returns-clause-one : goal.returns-clause-one
returns-clause-one c = one_polygon

pub returns-clause-built : goal.returns-clause-built
returns-clause-built c = one_built
