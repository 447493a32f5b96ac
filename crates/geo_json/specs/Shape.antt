-- The shapes of GeoJSON (RFC 7946) that are read, in values as serde_json has them: positions, rings, the coordinates
-- of a Polygon and of a MultiPolygon, geometries, features and documents.
use Rattle.std.specs.Prelude.{ℕ, Bool, true, false, if◌then◌else◌, is_some, nat_le, List, [], ◌∷◌, length, map, filter, Option, Some, None, option_map, option_and_then, unwrap_or, codes, bytes_eq}
use Rattle.serde_json.specs.Data.{Num, Data, null, Items, no_items, item}
use Rattle.serde_json.specs.Find.{get, as_null, as_str, as_number, as_array}

-- ---- arrays and members of objects

-- the items of an array as a list
abbrev pub item_list : Items → List Data
item_list no_items = []
item_list (item d ds) = d ∷ item_list ds

-- the items of an array; none of a value that is no array
abbrev pub items_of : Data → Option (List Data)
items_of d = option_map item_list (as_array d)

-- every one of the values as f reads it; none where f reads none of one
abbrev pub each : {A : Type 0} → (Data → Option A) → List Data → Option (List A)
each f [] = Some []
each f (d ∷ ds) = option_and_then (λ a. option_map (λ rest. a ∷ rest) (each f ds)) (f d)

-- an array, every item as f reads it
abbrev pub array_of : {A : Type 0} → (Data → Option A) → Data → Option (List A)
array_of f d = option_and_then (each f) (items_of d)

-- the member of this name, null where the value has none
abbrev pub member_of : List ℕ → Data → Data
member_of name d = unwrap_or (get name d) null

-- the value is an object of this type
abbrev pub is_of_type : List ℕ → Data → Bool
is_of_type name d = unwrap_or (option_map (λ text. bytes_eq text name) (option_and_then as_str (get (codes "type") d))) false

-- ---- coordinates

-- a position, by its numbers
abbrev pub Position : Type 0
Position = List Num

-- a ring, by its positions
abbrev pub RingShape : Type 0
RingShape = List Position

-- a polygon, by its rings
abbrev pub PolygonShape : Type 0
PolygonShape = List RingShape

-- two numbers or more
abbrev pub if_position : List Num → Option Position
if_position numbers = if nat_le 2 (length numbers) then Some numbers else None

-- a position is an array of two or more numbers
abbrev pub position_of : Data → Option Position
position_of d = option_and_then if_position (array_of as_number d)

-- a ring is an array of positions
abbrev pub ring_of : Data → Option RingShape
ring_of d = array_of position_of d

-- the coordinates of a Polygon are an array of rings
abbrev pub polygon_of : Data → Option PolygonShape
polygon_of d = array_of ring_of d

-- those of a MultiPolygon are an array of those
abbrev pub multi_polygon_of : Data → Option (List PolygonShape)
multi_polygon_of d = array_of polygon_of d

-- ---- geometries, features, documents

-- the polygon has a ring
abbrev pub has_rings : PolygonShape → Bool
has_rings [] = false
has_rings (r ∷ rs) = true

-- the polygons of a list that have a ring
abbrev pub with_rings : List PolygonShape → List PolygonShape
with_rings polygons = filter has_rings polygons

-- the polygons of coordinates that are those of a Polygon, of a MultiPolygon, or of neither
abbrev pub polygons_by : Bool → Bool → Data → Option (List PolygonShape)
polygons_by true multi coordinates = option_map (λ rings. with_rings (rings ∷ [])) (polygon_of coordinates)
polygons_by false true coordinates = option_map with_rings (multi_polygon_of coordinates)
polygons_by false false coordinates = None

-- the polygons of a Polygon or a MultiPolygon, but for those without rings; none of another value
abbrev pub geometry_of : Data → Option (List PolygonShape)
geometry_of d = polygons_by (is_of_type (codes "Polygon") d) (is_of_type (codes "MultiPolygon") d) (member_of (codes "coordinates") d)

-- a feature: its polygons, its properties and its id
pub record FeatureShape : Type 0 where
  pub polygons : List PolygonShape
  pub properties : Data
  pub id : Data

-- the polygons of a feature's geometry, which may be null
abbrev pub geometry_or_null : Data → Option (List PolygonShape)
geometry_or_null d = if is_some (as_null d) then Some [] else geometry_of d

-- the feature of these polygons, properties and id
abbrev pub feature_with : Data → Data → List PolygonShape → FeatureShape
feature_with properties id polygons = record { polygons = polygons; properties = properties; id = id }

-- an object of type Feature; its geometry, properties and id are null where it has none
abbrev pub feature_of : Data → Option FeatureShape
feature_of d =
    if is_of_type (codes "Feature") d
    then option_map (feature_with (member_of (codes "properties") d) (member_of (codes "id") d)) (geometry_or_null (member_of (codes "geometry") d))
    else None

-- a geometry that stands for itself is a feature with neither properties nor id
abbrev pub bare_feature : Data → Option FeatureShape
bare_feature d = option_map (feature_with null null) (geometry_of d)

-- the features of a FeatureCollection, by its array `features`; where that is no array, one that is of no shape
abbrev pub collected : Option (List Data) → List (Option FeatureShape)
collected None = None ∷ []
collected (Some ds) = map feature_of ds

-- one feature, or a geometry that stands for itself
abbrev pub lone_feature : Data → Option FeatureShape
lone_feature d = if is_of_type (codes "Feature") d then feature_of d else bare_feature d

-- the features of a document, none in the place of one that isn't of a feature's shape
abbrev pub document_of : Data → List (Option FeatureShape)
document_of d = if is_of_type (codes "FeatureCollection") d then collected (items_of (member_of (codes "features") d)) else lone_feature d ∷ []
