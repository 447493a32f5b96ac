use Rattle.cov_marks.proofs.GapMarks.{one_marks}
use Rattle.cov_marks.proofs.laws.marks_law.Goals as goal

pub returns : goal.returns
returns c = one_marks
