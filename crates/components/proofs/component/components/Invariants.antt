use Rattle.components.proofs.Down.{AreJoined}
use Rattle.components.proofs.component.components.Given as goal

abbrev pub invariant-loop-link : goal.invariant-loop-link
invariant-loop-link l = AreJoined l.count l.links l.link-index l.least.items
