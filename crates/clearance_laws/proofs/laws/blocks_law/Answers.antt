use Rattle.clearance_laws.proofs.Blocks.{across_covered, upwards_covered, in_whole, near_centre}
use Rattle.clearance_laws.proofs.laws.blocks_law.Goals as goal

pub returns-clause-across : goal.returns-clause-across
returns-clause-across c = across_covered

pub returns-clause-upwards : goal.returns-clause-upwards
returns-clause-upwards c = upwards_covered

pub returns-clause-whole : goal.returns-clause-whole
returns-clause-whole c = in_whole

pub returns-clause-near : goal.returns-clause-near
returns-clause-near c = near_centre
