use Rattle.std.proofs.Common.{map, take}
use Rattle.serde_json.specs.Find.{as_number}
use Rattle.serde_json.specs.View.{view}
use Rattle.geo_json.specs.Shape.{each}
use Rattle.geo_json.specs.Reading.{point_of}
use Rattle.geo_json.specs.Noting.{noting_numbers, IsTaken}
use Rattle.geo_json.proofs.coordinates.ordinates.Given as goal

abbrev pub invariant-loop-i : goal.invariant-loop-i
invariant-loop-i l = IsTaken (each as_number) point_of noting_numbers (map view (take l.i l.list)) l.fn.noted l.point l.noted
