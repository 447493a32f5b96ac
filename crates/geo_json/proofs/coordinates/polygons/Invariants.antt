use Rattle.std.proofs.Common.{map, take}
use Rattle.serde_json.specs.View.{view}
use Rattle.geo_json.specs.Noting.{ArePolygonsTaken}
use Rattle.geo_json.proofs.coordinates.polygons.Given as goal

abbrev pub invariant-loop-item : goal.invariant-loop-item
invariant-loop-item l = ArePolygonsTaken (map view (take l.item-index l.list)) l.fn.noted l.polys.items l.noted
