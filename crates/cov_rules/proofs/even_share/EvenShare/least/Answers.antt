use Rattle.std.proofs.Common.{arith}
use Rattle.cov_rules.proofs.Shares.{is_least}
use Rattle.cov_rules.proofs.even_share.EvenShare.least.Goals as goal

pub returns-clause-least : goal.returns-clause-least
returns-clause-least c = is_least c.args.self.now c.args.candidates.now c.loop-i.i c.loop-i.best c.requires.some (omega arith) c.loop-i.invariant
