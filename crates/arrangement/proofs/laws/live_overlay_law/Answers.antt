use Rattle.arrangement.proofs.LiveOverlays.{live_overlay, label_is}
use Rattle.arrangement.proofs.laws.live_overlay_law.Goals as goal

pub returns-clause-live : goal.returns-clause-live
returns-clause-live c = live_overlay

pub returns-clause-labels : goal.returns-clause-labels
returns-clause-labels c = label_is
