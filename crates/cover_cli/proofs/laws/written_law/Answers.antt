use Rattle.cover_cli.proofs.OneText.{one_text, one_cause, written_or_refused}
use Rattle.cover_cli.proofs.laws.written_law.Goals as goal

pub returns : goal.returns
returns c = record { text = one_text; refusal = one_cause; either = written_or_refused }
