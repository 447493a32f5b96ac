use Rattle.shell_laws.proofs.Points.{in_part_within, even_odd}
use Rattle.shell_laws.proofs.laws.point_law.Goals as goal

pub returns-clause-in_part : goal.returns-clause-in_part
returns-clause-in_part c edges planar distinct passes part shell holes first p off = in_part_within edges planar distinct passes part shell holes first.rings first.side first.among first.inside first.held p off

pub returns-clause-even_odd : goal.returns-clause-even_odd
returns-clause-even_odd c edges planar distinct passes part shell holes first p off = even_odd edges planar distinct passes part shell holes first.rings first.side first.among first.inside first.held p off
