use Rattle.cover_cli.proofs.Headline.{headline}
use Rattle.cover_cli.proofs.laws.headline_law.Goals as goal

pub returns : goal.returns
returns c = headline
