use Rattle.cover_cli.proofs.OneAnswer.{one_answer, complete, faultless}
use Rattle.cover_cli.proofs.laws.answer_law.Goals as goal

pub returns : goal.returns
returns c = record { one = one_answer; complete = complete; faultless = faultless }
