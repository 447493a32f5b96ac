-- Spots that wait for a vertex.
use Rattle.std.specs.Prelude.{List, [], Vec, Option, Some, None}
use Rattle.std.specs.Global.{Global}
use Rattle.std.specs.HashMap.{HashMap, get}
use Rattle.std.specs.declared.hash.FoldHasher.{FoldHasher}
use Rattle.std.specs.declared.hash.BuildHasherDefault.{BuildHasherDefault}
use Rattle.cov_types.specs.declared.coord.Coord.{Coord}
use Rattle.cov_types.specs.Coord.{is_same_coord}
use Rattle.visvalingam.specs.declared.spot.QueuedSpot.{QueuedSpot}

-- the elements, or none
abbrev pub items_of : Option (Vec QueuedSpot Global) → List QueuedSpot
items_of None = []
items_of (Some spots) = spots.items

-- those that wait for p
abbrev pub waiting_at : HashMap Coord (Vec QueuedSpot Global) (BuildHasherDefault FoldHasher) → Coord → List QueuedSpot
waiting_at spots p = items_of (get is_same_coord spots p)
