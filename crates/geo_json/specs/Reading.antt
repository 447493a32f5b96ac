-- What a document is read as.
use Rattle.std.specs.Prelude.{◌≡◌, ℕ, ℤ, pos, neg_ℤ, ◌-◌, Bool, ◌&&◌, int_le, if◌then◌else◌, List, length, map, take, Option, Some, None, option_and_then, unwrap_or, slice_get, IsUtf8}
use Rattle.cov_types.specs.Coverage.{Members}
use Rattle.cov_types.specs.declared.coord.Coord.{Coord}
use Rattle.cov_types.specs.declared.coord.TheConstants.{LIMIT}
use Rattle.serde_json.specs.Data.{Num, Data}
use Rattle.serde_json.specs.Find.{as_i64}
use Rattle.serde_json.specs.Read.{read}
use Rattle.serde_json.specs.View.{view}
use Rattle.geo_json.specs.Shape.{Position, RingShape, PolygonShape, FeatureShape, document_of}
use Rattle.geo_json.specs.declared.features.Features.{Features}

-- ---- coordinates

-- from -LIMIT to LIMIT
abbrev pub is_in_range : ℤ → Bool
is_in_range z = int_le (neg_ℤ LIMIT) z && int_le z LIMIT

-- the number if it is in range
abbrev pub if_in_range : ℤ → Option ℤ
if_in_range z = if is_in_range z then Some z else None

-- the coordinate that a number is; none where it isn't whole or isn't in range
abbrev pub ordinate_of : Num → Option ℤ
ordinate_of n = option_and_then if_in_range (as_i64 n)

-- the coordinate that stands in a place of a position; 0 stands in for a number that is faulty
abbrev pub ordinate_at : ℕ → Position → ℤ
ordinate_at place position = unwrap_or (option_and_then ordinate_of (slice_get position place)) (pos 0)

-- the point of a position: its first two numbers
abbrev pub point_of : Position → Coord
point_of position = record { x = ordinate_at 0 position; y = ordinate_at 1 position }

-- the points of a ring: its positions without the last, which repeats the first
abbrev pub points_of : RingShape → List Coord
points_of ring = take (length ring - 1) (map point_of ring)

-- the rings of a polygon, each by its points
abbrev pub poly_of : PolygonShape → List (List Coord)
poly_of rings = map points_of rings

-- the polygons of a list, each by its rings
abbrev pub polys_of : List PolygonShape → List (List (List Coord))
polys_of polygons = map poly_of polygons

-- the polygons of a feature
abbrev pub polys_of_feature : FeatureShape → List (List (List Coord))
polys_of_feature f = polys_of f.polygons

-- ---- documents

-- the bytes are the UTF-8 text of the value, as serde_json reads it
abbrev pub StandsFor : List ℕ → Data → Type 0
StandsFor bytes d = IsUtf8 bytes × (read bytes ≡ Some d)

-- what is read: the members of a coverage, and beside each its properties and its id
pub record Reading : Type 0 where
  pub members : Members
  pub properties : List Data
  pub ids : List Data

-- that of some features
abbrev pub reading_of : List FeatureShape → Reading
reading_of features = record {
  members = map polys_of_feature features;
  properties = map (λ (f : FeatureShape). f.properties) features;
  ids = map (λ (f : FeatureShape). f.id) features;
}

-- what `Features` hold
abbrev pub held : Features → Reading
held c = record { members = c.coverage; properties = map view c.properties.items; ids = map view c.ids.items }

-- the bytes stand for a document of features that are read as this
pub record Reads (bytes : List ℕ) (r : Reading) : Type 0 where
  pub value : Data
  pub features : List FeatureShape
  pub stands : StandsFor bytes value
  pub shapes : document_of value ≡ map Some features
  pub read : r ≡ reading_of features
