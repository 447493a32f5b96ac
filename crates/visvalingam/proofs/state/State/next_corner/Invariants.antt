use Rattle.std.proofs.Common.{◌≡◌, length}
use Rattle.greedy_run.specs.Run.{Simplification}
use Rattle.visvalingam.specs.Ready.{IsReady}
use Rattle.visvalingam.specs.State.{IsTaskOf, AreTables, gone}
use Rattle.visvalingam.specs.Waiting.{waiting_at}
use Rattle.visvalingam.proofs.state.State.next_corner.Given as goal

abbrev pub invariant-spots : goal.invariant-spots
invariant-spots l = record {
  same : l.self ≡ record l.initial.self { queue = l.self.queue; waiting = l.self.waiting };
  ready : (s : Simplification) → IsTaskOf s l.task → AreTables s l.task l.initial.self → IsReady s (gone l.initial.self) l.initial.self.queue (waiting_at l.initial.self.waiting.spots)
      → IsReady s (gone l.initial.self) l.self.queue (waiting_at l.self.waiting.spots);
}

abbrev pub decreases-spots : goal.decreases-spots
decreases-spots l = length l.self.queue
