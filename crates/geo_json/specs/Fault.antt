-- The one fault of a document: the first of its faults, feature by feature, and of one feature first that of its shape,
-- then those of positions, of numbers and of rings, each in the order of the feature's coordinates.
use Rattle.std.specs.Prelude.{◌≡◌, ◌⊎◌, ℕ, ◌+◌, ◌-◌, Bool, if◌then◌else◌, is_some, nat_lt, List, [], ◌∷◌, ◌++◌, length, flat_map, get_or, Option, Some, None, option_map, unwrap_or}
use Rattle.cov_types.specs.Coord.{is_same_coord}
use Rattle.serde_json.specs.Data.{Num, Data}
use Rattle.serde_json.specs.Find.{is_float}
use Rattle.geo_json.specs.Shape.{Position, RingShape, PolygonShape, FeatureShape, document_of}
use Rattle.geo_json.specs.Reading.{ordinate_of, point_of, StandsFor}
use Rattle.geo_json.specs.declared.error.JsonFault.{JsonFault}
use Rattle.geo_json.specs.declared.error.JsonFault.TheVariants.{NotJson, BadShape, NotPlanar, NotWhole, OutOfRange, RingShort, RingOpen}

-- the first of a list
abbrev pub first : {A : Type 0} → List A → Option A
first [] = None
first (x ∷ xs) = Some x

-- ---- what may be wrong with each part

-- so many numbers of a position are more than two
abbrev pub extra_faults : ℕ → ℕ → List JsonFault
extra_faults feature count = if nat_lt 2 count then NotPlanar feature ∷ [] else []

-- a position with a third number
abbrev pub planar_faults : ℕ → Position → List JsonFault
planar_faults feature position = extra_faults feature (length position)

-- a number that serde_json holds as a float, or one out of range
abbrev pub number_faults : ℕ → Num → List JsonFault
number_faults feature n = if is_float n then NotWhole feature ∷ [] else (if is_some (ordinate_of n) then [] else OutOfRange feature ∷ [])

-- the point of the last position is that of the first
abbrev pub is_closed : RingShape → Bool
is_closed ring = is_same_coord (point_of (get_or ring (length ring - 1) [])) (point_of (get_or ring 0 []))

-- a ring of fewer than four positions, or one that isn't closed
abbrev pub ring_faults : ℕ → RingShape → List JsonFault
ring_faults number ring = if nat_lt (length ring) 4 then RingShort number ∷ [] else (if is_closed ring then [] else RingOpen number ∷ [])

-- those of rings that are numbered from a number on
abbrev pub faults_of_rings : ℕ → List RingShape → List JsonFault
faults_of_rings number [] = []
faults_of_rings number (ring ∷ rings) = ring_faults number ring ++ faults_of_rings (number + 1) rings

-- ---- the parts of a feature, in the order of its coordinates

-- the rings of a list of polygons
abbrev pub rings_of : List PolygonShape → List RingShape
rings_of polygons = flat_map (λ rings. rings) polygons

-- the positions of a list of rings
abbrev pub positions_of : List RingShape → List Position
positions_of rings = flat_map (λ ring. ring) rings

-- the numbers of a list of positions
abbrev pub numbers_of : List Position → List Num
numbers_of positions = flat_map (λ position. position) positions

-- ---- the fault

-- the faults of a feature of this number that has these polygons and whose rings are numbered from `ring` on
abbrev pub polygons_faults : ℕ → ℕ → Option (List PolygonShape) → List JsonFault
polygons_faults feature ring None = BadShape feature ∷ []
polygons_faults feature ring (Some polygons) =
    let rings = rings_of polygons in
    flat_map (planar_faults feature) (positions_of rings) ++ (flat_map (number_faults feature) (numbers_of (positions_of rings)) ++ faults_of_rings ring rings)

-- the polygons of a feature
abbrev pub its_polygons : Option FeatureShape → Option (List PolygonShape)
its_polygons f = option_map (λ (shape : FeatureShape). shape.polygons) f

-- its faults
abbrev pub feature_faults : ℕ → ℕ → Option FeatureShape → List JsonFault
feature_faults feature ring f = polygons_faults feature ring (its_polygons f)

-- how many rings a feature has
abbrev pub ring_count : Option FeatureShape → ℕ
ring_count f = length (rings_of (unwrap_or (its_polygons f) []))

-- the faults of features that are numbered from `feature` on, and their rings from `ring` on
abbrev pub faults_from : ℕ → ℕ → List (Option FeatureShape) → List JsonFault
faults_from feature ring [] = []
faults_from feature ring (f ∷ fs) = feature_faults feature ring f ++ faults_from (feature + 1) (ring + ring_count f) fs

-- the fault of a value, if it has one
abbrev pub fault_of : Data → Option JsonFault
fault_of d = first (faults_from 0 0 (document_of d))

-- the bytes stand for no value, or they stand for one that has the fault
abbrev pub IsFault : List ℕ → JsonFault → Type 0
IsFault bytes fault = ((fault ≡ NotJson) × ((d : Data) → StandsFor bytes d → ⊥)) ⊎ ((d : Data) × StandsFor bytes d × (fault_of d ≡ Some fault))

-- the bytes have no fault
abbrev pub HasNoFault : List ℕ → Type 0
HasNoFault bytes = (fault : JsonFault) → IsFault bytes fault → ⊥
