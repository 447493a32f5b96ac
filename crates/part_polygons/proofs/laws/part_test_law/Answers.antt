use Rattle.part_polygons.proofs.PartTest.{part_test}
use Rattle.part_polygons.proofs.TestExists.{test_exists}
use Rattle.part_polygons.proofs.laws.part_test_law.Goals as goal

pub returns-clause-exists : goal.returns-clause-exists
returns-clause-exists c = test_exists

pub returns-clause-part : goal.returns-clause-part
returns-clause-part c = part_test
