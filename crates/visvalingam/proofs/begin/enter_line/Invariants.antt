use Rattle.std.proofs.Common.{◌≡◌, ◌<◌, List}
use Rattle.std.specs.Prelude.{Contains}
use Rattle.cov_types.specs.declared.coord.Coord.{Coord}
use Rattle.greedy_run.specs.Run.{Simplification}
use Rattle.visvalingam.specs.Chains.{AreAllLinked}
use Rattle.visvalingam.specs.Queue.{at_spot}
use Rattle.visvalingam.specs.Ready.{IsOpen}
use Rattle.visvalingam.specs.State.{IsTaskOf}
use Rattle.visvalingam.specs.declared.spot.QueuedSpot.{QueuedSpot}
use Rattle.visvalingam.proofs.begin.enter_line.Given as goal

abbrev pub invariant-loop-place : goal.invariant-loop-place
invariant-loop-place l = record {
  kept : (q : QueuedSpot) → Contains l.initial.queue q → Contains l.queue q;
  entered : (s : Simplification) (removed : List Coord) (q : QueuedSpot) → IsTaskOf s l.task → AreAllLinked removed l.task.lines.now l.links → q.line ≡ l.line → q.place < l.place → IsOpen s removed (at_spot q) → Contains l.queue q;
}
