use Rattle.std.proofs.Common.{ℕ, ◌<◌, get_or}
use Rattle.std.specs.Prelude.{Contains}
use Rattle.visvalingam.specs.declared.spot.QueuedSpot.{QueuedSpot}
use Rattle.visvalingam.proofs.queue.Queue.push_all.Given as goal

abbrev pub invariant-loop-spot : goal.invariant-loop-spot
invariant-loop-spot l = record {
  kept : (q : QueuedSpot) → Contains l.initial.self q → Contains l.self q;
  entered : (k : ℕ) (d : QueuedSpot) → k < l.spot-index → Contains l.self (get_or l.spots k d);
}
