-- What the reader notes of a feature's coordinates: the first fault of each kind.
use Rattle.std.specs.Prelude.{◌≡◌, ℕ, ℤ, ◌+◌, ◌==◌, if◌then◌else◌, List, [], ◌∷◌, length, map, flat_map, Option, Some, None}
use Rattle.std.specs.Option.{option_or}
use Rattle.serde_json.specs.Data.{Num, Data}
use Rattle.geo_json.specs.Shape.{Position, RingShape, each, with_rings, position_of, ring_of, polygon_of, multi_polygon_of, geometry_of}
use Rattle.geo_json.specs.Fault.{first, rings_of, planar_faults, number_faults, faults_of_rings, positions_of, numbers_of}
use Rattle.geo_json.specs.Reading.{point_of, points_of, poly_of, polys_of}
use Rattle.cov_types.specs.declared.coord.Coord.{Coord}
use Rattle.geo_json.specs.declared.error.JsonFault.{JsonFault}
use Rattle.geo_json.specs.declared.first_faults.FirstFaults.{FirstFaults}

-- nothing is noted yet of a feature whose rings are numbered from `rings` on
abbrev pub fresh : ℕ → ℕ → FirstFaults
fresh feature rings = record { feature = feature; planar = None; number = None; ring = None; rings = rings }

-- with some faults more of each kind, and so many rings more
abbrev pub noting : List JsonFault → List JsonFault → List JsonFault → ℕ → FirstFaults → FirstFaults
noting planar number ring count f = record f {
  planar = option_or f.planar (first planar);
  number = option_or f.number (first number);
  ring = option_or f.ring (first ring);
  rings = f.rings + count;
}

-- with those of some numbers
abbrev pub noting_numbers : List Num → FirstFaults → FirstFaults
noting_numbers numbers f = noting [] (flat_map (number_faults f.feature) numbers) [] 0 f

-- with those of some positions
abbrev pub noting_positions : List Position → FirstFaults → FirstFaults
noting_positions positions f = noting (flat_map (planar_faults f.feature) positions) (flat_map (number_faults f.feature) (numbers_of positions)) [] 0 f

-- with those of some rings
abbrev pub noting_rings : List RingShape → FirstFaults → FirstFaults
noting_rings rings f =
    let positions = positions_of rings in
    noting (flat_map (planar_faults f.feature) positions) (flat_map (number_faults f.feature) (numbers_of positions)) (faults_of_rings f.rings rings) (length rings) f

-- the point with a number more of its position, in this place
abbrev pub placed : Coord → ℕ → ℤ → Coord
placed point place number = if place == 0 then record { x = number; y = point.y } else (if place == 1 then record { x = point.x; y = number } else point)

-- ---- what the reader takes of a value

-- the value is read as an item, whose faults are noted, and answered in its written shape
pub record IsTaken {D A B : Type 0} (reading : D → Option A) (shape : A → B) (notes : A → FirstFaults → FirstFaults) (d : D) (before : FirstFaults) (b : B) (after : FirstFaults) : Type 0 where
  pub item : A
  pub read : reading d ≡ Some item
  pub value : b ≡ shape item
  pub noted : after ≡ notes item before

-- the same of a list of values
abbrev pub AreTaken : {A B : Type 0} → (Data → Option A) → (A → B) → (List A → FirstFaults → FirstFaults) → List Data → FirstFaults → List B → FirstFaults → Type 0
AreTaken reading shape notes ds before bs after = IsTaken (each reading) (λ items. map shape items) notes ds before bs after

-- the value is a position, and its point was taken
abbrev pub IsPositionTaken : Data → FirstFaults → Coord → FirstFaults → Type 0
IsPositionTaken d before p after = IsTaken position_of point_of (λ position f. noting_positions (position ∷ []) f) d before p after

-- it is a ring, and its points were taken
abbrev pub IsRingTaken : Data → FirstFaults → List Coord → FirstFaults → Type 0
IsRingTaken d before points after = IsTaken ring_of points_of (λ ring f. noting_rings (ring ∷ []) f) d before points after

-- it is the coordinates of a Polygon, and its rings were taken
abbrev pub IsPolygonTaken : Data → FirstFaults → List (List Coord) → FirstFaults → Type 0
IsPolygonTaken d before rings after = IsTaken polygon_of poly_of noting_rings d before rings after

-- the values are the coordinates of Polygons, and those that have rings were taken
abbrev pub ArePolygonsTaken : List Data → FirstFaults → List (List (List Coord)) → FirstFaults → Type 0
ArePolygonsTaken ds before polys after = IsTaken (each polygon_of) (λ polygons. map poly_of (with_rings polygons)) (λ polygons f. noting_rings (rings_of polygons) f) ds before polys after

-- the value is the coordinates of a MultiPolygon, and its polygons that have rings were taken
abbrev pub IsMultiPolygonTaken : Data → FirstFaults → List (List (List Coord)) → FirstFaults → Type 0
IsMultiPolygonTaken d before polys after = IsTaken multi_polygon_of (λ polygons. map poly_of (with_rings polygons)) (λ polygons f. noting_rings (rings_of polygons) f) d before polys after

-- it is a geometry, and its polygons were taken
abbrev pub IsGeometryTaken : Data → FirstFaults → List (List (List Coord)) → FirstFaults → Type 0
IsGeometryTaken d before polys after = IsTaken geometry_of polys_of (λ polygons f. noting_rings (rings_of polygons) f) d before polys after
