use Rattle.std.proofs.Common.{arith}
use Rattle.components.proofs.Down.{settled-more}
use Rattle.components.proofs.component.settle.Goals as goal

pub nodes-preserved : goal.nodes-preserved
nodes-preserved c = settled-more c.args.lower.now c.nodes.lower c.nodes.node c.requires.low (omega (arith, c.nodes-test.true, c.nodes.auto.lower)) c.nodes.invariant
