use Rattle.kept_lines_laws.proofs.Kept.{lines}
use Rattle.kept_lines_laws.proofs.laws.lines_law.Goals as goal

pub returns : goal.returns
returns c = lines
