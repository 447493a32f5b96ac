use Rattle.std.proofs.Common.{map, take}
use Rattle.serde_json.specs.View.{view}
use Rattle.geo_json.specs.Shape.{position_of}
use Rattle.geo_json.specs.Reading.{point_of}
use Rattle.geo_json.specs.Noting.{noting_positions, AreTaken}
use Rattle.geo_json.proofs.coordinates.positions.Given as goal

abbrev pub invariant-loop-item : goal.invariant-loop-item
invariant-loop-item l = AreTaken position_of point_of noting_positions (map view (take l.item-index l.list)) l.fn.noted l.points.items l.noted
