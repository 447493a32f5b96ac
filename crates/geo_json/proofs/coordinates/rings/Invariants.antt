use Rattle.std.proofs.Common.{map, take}
use Rattle.serde_json.specs.View.{view}
use Rattle.geo_json.specs.Shape.{ring_of}
use Rattle.geo_json.specs.Reading.{points_of}
use Rattle.geo_json.specs.Noting.{noting_rings, AreTaken}
use Rattle.geo_json.proofs.coordinates.rings.Given as goal

abbrev pub invariant-loop-item : goal.invariant-loop-item
invariant-loop-item l = AreTaken ring_of points_of noting_rings (map view (take l.item-index l.list)) l.fn.noted l.rings.items l.noted
