use Rattle.sound_polygons.proofs.Polygons.{polygon_examples}
use Rattle.sound_polygons.proofs.SquareCleaned.{square_examples}
use Rattle.sound_polygons.proofs.SquareHolding.{holding_examples}
use Rattle.sound_polygons.proofs.examples.instances.Goals as goal

pub returns-clause-square : goal.returns-clause-square
returns-clause-square c = square_examples

pub returns-clause-polygons : goal.returns-clause-polygons
returns-clause-polygons c = polygon_examples

pub returns-clause-holding : goal.returns-clause-holding
returns-clause-holding c = holding_examples
