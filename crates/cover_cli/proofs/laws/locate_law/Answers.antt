use Rattle.cover_cli.proofs.Located.{located}
use Rattle.cover_cli.proofs.laws.locate_law.Goals as goal

pub returns : goal.returns
returns c = located
