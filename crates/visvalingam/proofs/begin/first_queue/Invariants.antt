use mathlib.Core.List.{[]}
use Rattle.std.proofs.Common.{◌<◌}
use Rattle.std.specs.Prelude.{Contains}
use Rattle.greedy_run.specs.Run.{Simplification}
use Rattle.visvalingam.specs.Chains.{AreAllLinked}
use Rattle.visvalingam.specs.Queue.{at_spot}
use Rattle.visvalingam.specs.Ready.{IsOpen}
use Rattle.visvalingam.specs.State.{IsTaskOf}
use Rattle.visvalingam.specs.declared.spot.QueuedSpot.{QueuedSpot}
use Rattle.visvalingam.proofs.begin.first_queue.Given as goal

abbrev pub invariant-loop-line : goal.invariant-loop-line
invariant-loop-line l = (s : Simplification) (q : QueuedSpot) → IsTaskOf s l.task → AreAllLinked [] l.task.lines.now l.links → q.line < l.line → IsOpen s [] (at_spot q) → Contains l.queue q
