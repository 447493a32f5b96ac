use Rattle.removal_laws.proofs.Odd.{odd}
use Rattle.removal_laws.proofs.laws.odd_law.Goals as goal

pub returns : goal.returns
returns c = odd
