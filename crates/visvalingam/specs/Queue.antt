-- Spots in a queue, of which the least comes first.
use Rattle.std.specs.Prelude.{List, map, IsTrue}
use Rattle.std.specs.BinaryHeap.{IsHeap}
use Rattle.std.specs.Ordering.{is_le}
use Rattle.std.specs.declared.cmp.Reverse.{Reverse}
use Rattle.greedy_run.specs.Run.{Spot, spot_cmp}
use Rattle.visvalingam.specs.declared.spot.QueuedSpot.{QueuedSpot}

-- the spot of the definition
abbrev pub at_spot : QueuedSpot → Spot
at_spot q = record { size = q.size; line = q.line; place = q.place }

-- the first does not come after the second
abbrev pub IsNoLater : QueuedSpot → QueuedSpot → Type 0
IsNoLater q r = IsTrue (is_le (spot_cmp (at_spot q) (at_spot r)))

-- what a heap of turned spots has
abbrev pub spots_of : List (Reverse QueuedSpot) → List QueuedSpot
spots_of items = map (λ r. r.0) items

-- the least is on top
abbrev pub IsInOrder : List (Reverse QueuedSpot) → Type 0
IsInOrder items = IsHeap (λ x y. spot_cmp (at_spot y.0) (at_spot x.0)) items
