use Rattle.kept_lines_laws.proofs.Kept.{ends, sides, turned}
use Rattle.kept_lines_laws.proofs.laws.line_law.Goals as goal

pub returns-clause-ends : goal.returns-clause-ends
returns-clause-ends c = ends

pub returns-clause-sides : goal.returns-clause-sides
returns-clause-sides c = sides

pub returns-clause-turned : goal.returns-clause-turned
returns-clause-turned c = turned
