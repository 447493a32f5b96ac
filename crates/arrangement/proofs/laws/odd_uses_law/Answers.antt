use Rattle.arrangement.proofs.OddUses.{odd_uses_law, live_uses_law, live_again_law}
use Rattle.arrangement.proofs.laws.odd_uses_law.Goals as goal

pub returns-clause-edges : goal.returns-clause-edges
returns-clause-edges c = odd_uses_law

pub returns-clause-live : goal.returns-clause-live
returns-clause-live c = live_uses_law

pub returns-clause-again : goal.returns-clause-again
returns-clause-again c = live_again_law
