use Rattle.cov_valid.proofs.Unique.{AreFaultMarks-unique}
use Rattle.cov_valid.proofs.laws.marks_law.Goals as goal

pub returns : goal.returns
returns c = AreFaultMarks-unique
