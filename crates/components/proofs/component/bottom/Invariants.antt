use Rattle.components.proofs.Down.{IsWayDown}
use Rattle.components.proofs.component.bottom.Given as goal

abbrev pub invariant-down : goal.invariant-down
invariant-down l = IsWayDown l.fn.lower l.lower l.node l.at

abbrev pub decreases-down : goal.decreases-down
decreases-down l = l.at
