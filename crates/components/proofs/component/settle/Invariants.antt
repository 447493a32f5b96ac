use Rattle.components.proofs.Down.{AreSettled}
use Rattle.components.proofs.component.settle.Given as goal

abbrev pub invariant-nodes : goal.invariant-nodes
invariant-nodes l = AreSettled l.fn.lower l.lower l.node
