use Rattle.greedy_run.specs.Run.{Simplification}
use Rattle.visvalingam.specs.Chains.{count_left}
use Rattle.visvalingam.specs.State.{IsTaskOf, IsStateOf}
use Rattle.visvalingam.proofs.run.removed_points.Given as goal

abbrev pub invariant-removals : goal.invariant-removals
invariant-removals l = (s : Simplification) → IsTaskOf s l.task → IsStateOf s l.task l.state l.state.queue

abbrev pub decreases-removals : goal.decreases-removals
decreases-removals l = count_left l.state.links.items
