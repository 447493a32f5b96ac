use Rattle.std.proofs.Common.{◌≡◌, ◌%◌, arith}
use Rattle.half_edge.proofs.Counts.{twin_after, twin_before}
use Rattle.half_edge.proofs.side.Side.twin.Goals as goal

pub returns-then-self-eq0-clause-opposite : goal.returns-then-self-eq0-clause-opposite
returns-then-self-eq0-clause-opposite c = λ edges g at. twin_after edges c.args.self.number g c.if-self-eq0.true at

pub returns-else-self-eq0-clause-opposite : goal.returns-else-self-eq0-clause-opposite
returns-else-self-eq0-clause-opposite c = λ edges g at. (let test = c.if-self-eq0.false in let odd : c.args.self.number % 2 ≡ 1 = omega (arith, test) in twin_before edges c.args.self.number g odd at)
