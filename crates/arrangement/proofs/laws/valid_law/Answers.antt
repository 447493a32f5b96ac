use Rattle.arrangement.proofs.ValidLive.{valid_live, valid_overlay}
use Rattle.arrangement.proofs.laws.valid_law.Goals as goal

pub returns-clause-live : goal.returns-clause-live
returns-clause-live c = valid_live

pub returns-clause-overlay : goal.returns-clause-overlay
returns-clause-overlay c = valid_overlay
