use Rattle.std.proofs.Common.{subst, List, ◌∷◌, IsPermutation}
use Rattle.std.specs.BinaryHeap.{heap_items}
use Rattle.visvalingam.specs.Queue.{spots_of}
use Rattle.visvalingam.specs.declared.spot.QueuedSpot.{QueuedSpot}
use Rattle.visvalingam.proofs.Queues.{spots_moved, least_of}
use Rattle.visvalingam.proofs.queue.Queue.pop.Goals as goal

pub returns-clause-one : goal.returns-clause-one
returns-clause-one c =
    subst (λ (qs : List QueuedSpot). IsPermutation qs (c.in_ok-spot.field-0.0 ∷ spots_of (heap_items c.pop.new.self))) c.self.view_is
    (spots_moved (heap_items c.self.inside.heap) (c.in_ok-spot.field-0 ∷ heap_items c.pop.new.self) c.in_ok-spot.ensures.permutation)

pub returns-clause-least : goal.returns-clause-least
returns-clause-least c = least_of c.in_ok-spot.field-0.0 (heap_items c.pop.new.self) (c.in_ok-spot.ensures.below_top c.self.invariant)
