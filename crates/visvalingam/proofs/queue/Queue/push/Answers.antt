use Rattle.std.proofs.Common.{subst, List, ◌∷◌, IsPermutation}
use Rattle.std.specs.BinaryHeap.{heap_items}
use Rattle.visvalingam.specs.Queue.{spots_of}
use Rattle.visvalingam.specs.declared.spot.QueuedSpot.{QueuedSpot}
use Rattle.visvalingam.proofs.Queues.{spots_moved}
use Rattle.visvalingam.proofs.queue.Queue.push.Goals as goal

pub returns : goal.returns
returns c =
    subst (λ (qs : List QueuedSpot). IsPermutation (c.args.spot ∷ qs) (spots_of (heap_items c.push.new.self))) c.self.view_is
    (spots_moved ((record { 0 = c.args.spot }) ∷ heap_items c.self.inside.heap) (heap_items c.push.new.self) c.in_ok-push.ensures.permutation)
