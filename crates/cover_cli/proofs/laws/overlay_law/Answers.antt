use Rattle.cover_cli.proofs.Overlaid.{overlay_written}
use Rattle.cover_cli.proofs.laws.overlay_law.Goals as goal

pub returns : goal.returns
returns c = overlay_written
