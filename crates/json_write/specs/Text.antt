-- The written form of features: one FeatureCollection (RFC 7946) as compact JSON text, the members of objects in the
-- order of their names.
use Rattle.std.specs.Prelude.{◌≡◌, ℕ, ◌≤◌, false, if◌then◌else◌, is_some, List, [], ◌∷◌, ◌++◌, take, flat_map, Some, codes, IsUtf8, ⊤}
use Rattle.std.specs.Fmt.{signed_decimal}
use Rattle.cov_types.specs.declared.coord.Coord.{Coord}
use Rattle.json.specs.Lex.{tokens}
use Rattle.json.specs.Print.{print}
use Rattle.serde_json.specs.Data.{Data, depth}
use Rattle.serde_json.specs.Find.{as_null}
use Rattle.serde_json.specs.Read.{read, max_depth}
use Rattle.serde_json.specs.Written.{has_float, compact_text, IsInOrder}
use Rattle.geo_json.specs.Reading.{Reading}

-- ---- lists

-- texts with a comma between each two
abbrev pub with_commas : List (List ℕ) → List ℕ
with_commas [] = []
with_commas (text ∷ texts) = text ++ flat_map (λ later. codes "," ++ later) texts

-- the texts of a list's items, with a comma between each two
abbrev pub separated : {X : Type 0} → (X → List ℕ) → List X → List ℕ
separated text [] = []
separated text (x ∷ xs) = text x ++ flat_map (λ y. codes "," ++ text y) xs

-- a text in brackets
abbrev pub in_brackets : List ℕ → List ℕ
in_brackets text = codes "[" ++ text ++ codes "]"

-- ---- geometries

-- a position: its two numbers
abbrev pub position_text : Coord → List ℕ
position_text c = in_brackets (signed_decimal c.x ++ codes "," ++ signed_decimal c.y)

-- a ring: its positions, the first again at the end
abbrev pub ring_text : List Coord → List ℕ
ring_text points = in_brackets (separated position_text (points ++ take 1 points))

-- a polygon: its rings
abbrev pub polygon_text : List (List Coord) → List ℕ
polygon_text rings = in_brackets (separated ring_text rings)

-- a member: null, a Polygon or a MultiPolygon, by its polygons
abbrev pub geometry_text : List (List (List Coord)) → List ℕ
geometry_text [] = codes "null"
geometry_text (p ∷ []) = codes "{\"coordinates\":" ++ polygon_text p ++ codes ",\"type\":\"Polygon\"}"
geometry_text polys = codes "{\"coordinates\":" ++ in_brackets (separated polygon_text polys) ++ codes ",\"type\":\"MultiPolygon\"}"

-- ---- values of properties and ids

-- a compact text of the value, which is exact where no number of it is held as a float, and reads back
pub record IsValueText (d : Data) (text : List ℕ) : Type 0 where
  pub exact : has_float d ≡ false → text ≡ compact_text d
  pub utf8 : IsUtf8 text
  pub compact : text ≡ print (tokens text)
  pub order : IsInOrder text d
  pub reads_back : depth d ≤ max_depth → read text ≡ Some d

-- ---- features

-- a feature: the polygons of its member, its properties and its id
pub record Feature : Type 0 where
  pub polys : List (List (List Coord))
  pub properties : Data
  pub id : Data

-- the features of a coverage with its properties and ids
abbrev pub features_from : List (List (List (List Coord))) → List Data → List Data → List Feature
features_from (m ∷ ms) (p ∷ ps) (i ∷ ids) = record { polys = m; properties = p; id = i } ∷ features_from ms ps ids
features_from _ _ _ = []

-- the features of what was read
abbrev pub features_of : Reading → List Feature
features_of r = features_from r.members r.properties r.ids

-- the member `id` with this text, where the id isn't null
abbrev pub id_text : Data → List ℕ → List ℕ
id_text id text = if is_some (as_null id) then [] else codes ",\"id\":" ++ text

-- a feature with these texts for its id and its properties
abbrev pub feature_text : Feature → List ℕ → List ℕ → List ℕ
feature_text f id properties =
    codes "{\"geometry\":" ++ geometry_text f.polys ++ id_text f.id id ++ codes ",\"properties\":" ++ properties ++ codes ",\"type\":\"Feature\"}"

-- the text is that of the feature: the texts in it of its id, where that isn't null, and of its properties are texts of them
pub record IsFeatureText (f : Feature) (text : List ℕ) : Type 0 where
  pub id : List ℕ
  pub properties : List ℕ
  pub id_is : is_some (as_null f.id) ≡ false → IsValueText f.id id
  pub properties_is : IsValueText f.properties properties
  pub text_is : text ≡ feature_text f id properties

-- the texts are those of the features, one after the other
abbrev pub AreFeatureTexts : List Feature → List (List ℕ) → Type 0
AreFeatureTexts [] [] = ⊤
AreFeatureTexts [] (t ∷ ts) = ⊥
AreFeatureTexts (f ∷ fs) [] = ⊥
AreFeatureTexts (f ∷ fs) (t ∷ ts) = IsFeatureText f t × AreFeatureTexts fs ts

-- a FeatureCollection of features with these texts, and a line feed
abbrev pub collection_text : List (List ℕ) → List ℕ
collection_text texts = codes "{\"features\":" ++ in_brackets (with_commas texts) ++ codes ",\"type\":\"FeatureCollection\"}\n"

-- the text is the written form of the features
pub record IsWritten (features : List Feature) (text : List ℕ) : Type 0 where
  pub texts : List (List ℕ)
  pub each : AreFeatureTexts features texts
  pub text_is : text ≡ collection_text texts
