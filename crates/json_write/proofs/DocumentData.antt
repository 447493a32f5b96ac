-- The value that a written document stands for.
use Rattle.std.proofs.Common.{◌≡◌, ℕ, suc, ◌+◌, ◌^◌, ◌<◌, ◌≤◌, ℤ, pos, negsuc, neg_ℤ, ◌≤ℤ◌, Bool, true, false, if◌then◌else◌, is_some, List, [], ◌∷◌, ◌++◌, length, map, take, refl, ap, sym, subst, ◌∙◌, arith, append_assoc, append-nil, codes}
use Rattle.std.specs.Fmt.{signed_decimal}
use Rattle.std.specs.List.{AllByRecursion}
use Rattle.std.proofs.lemmas.Int.{ints}
use Rattle.std.proofs.lemmas.List.Folds.{flat_map-map}
use lib.Signed.{mag}
use Rattle.cov_types.specs.Range.{IsInRange}
use Rattle.cov_types.specs.declared.coord.Coord.{Coord}
use Rattle.cov_types.specs.declared.coord.TheConstants.{LIMIT}
use Rattle.json.specs.Json as json
use Rattle.json.specs.Print.{quoted, escape_byte}
use Rattle.json.proofs.Printed.Utf8.{IsUtf8-are_ascii}
use Rattle.serde_json.specs.Data.{Data, null, number, string, array, object, Members, no_members, member, put, depth}
use Rattle.serde_json.specs.Find.{as_null, of_integer}
use Rattle.serde_json.specs.Read.{max_depth}
use Rattle.json_write.specs.Text.{with_commas, separated, in_brackets, position_text, ring_text, polygon_text, geometry_text, Feature, id_text, IsFeatureText, AreFeatureTexts}
use Rattle.json_write.proofs.Standing.{Stands, AllStand, deeper, value_stands, string_stands, number_stands, items, array_stands, MembersStand, no_member_stands, member_stands, object_stands}

-- ---- values

-- a position
abbrev pub position_data : Coord → Data
position_data c = array (items (number (of_integer c.x) ∷ number (of_integer c.y) ∷ []))

-- the points of a ring, the first again at the end
abbrev pub closed : List Coord → List Coord
closed points = points ++ take 1 points

-- a ring
abbrev pub ring_data : List Coord → Data
ring_data points = array (items (map position_data (closed points)))

-- the coordinates of a polygon
abbrev pub polygon_data : List (List Coord) → Data
polygon_data rings = array (items (map ring_data rings))

-- a geometry of this type and these coordinates
abbrev pub shape_data : List ℕ → Data → Data
shape_data name coordinates = object (member (codes "coordinates") coordinates (member (codes "type") (string name) no_members))

-- the geometry of a member
abbrev pub geometry_data : List (List (List Coord)) → Data
geometry_data [] = null
geometry_data (p ∷ []) = shape_data (codes "Polygon") (polygon_data p)
geometry_data polys = shape_data (codes "MultiPolygon") (array (items (map polygon_data polys)))

-- a feature without an id, or with one
abbrev pub feature_data_by : Bool → Feature → Data
feature_data_by true f = object (member (codes "geometry") (geometry_data f.polys) (member (codes "properties") f.properties (member (codes "type") (string (codes "Feature")) no_members)))
feature_data_by false f = object (member (codes "geometry") (geometry_data f.polys) (member (codes "id") f.id (member (codes "properties") f.properties (member (codes "type") (string (codes "Feature")) no_members))))

-- a feature
abbrev pub feature_data : Feature → Data
feature_data f = feature_data_by (is_some (as_null f.id)) f

-- the document of the features
abbrev pub document_data : List Feature → Data
document_data fs = object (member (codes "features") (array (items (map feature_data fs))) (member (codes "type") (string (codes "FeatureCollection")) no_members))

-- ---- what is asked of features

-- three points or more, in range
pub record IsGoodRing (points : List Coord) : Type 0 where
  pub long : 3 ≤ length points
  pub in_range : AllByRecursion IsInRange points

-- a good ring or more
pub record IsGoodPolygon (rings : List (List Coord)) : Type 0 where
  pub some_ring : 1 ≤ length rings
  pub rings_good : AllByRecursion IsGoodRing rings

-- good polygons, and a value that a feature of a document may have for its properties and for its id
pub record IsGoodFeature (f : Feature) : Type 0 where
  pub polys_good : AllByRecursion IsGoodPolygon f.polys
  pub properties : depth f.properties + 3 ≤ max_depth
  pub id : depth f.id + 3 ≤ max_depth

-- ---- geometries

small : (z : ℤ) → (neg_ℤ LIMIT) ≤ℤ z → z ≤ℤ LIMIT → mag z < 2 ^ 63
small (pos n) low high = omega (arith, ints, high)
small (negsuc n) low high = omega (arith, ints, low)

position_stands : (c : Coord) → IsInRange c → Stands 1 (position_text c) (position_data c)
position_stands c h =
    let x = signed_decimal c.x in
    let y = signed_decimal c.y in
    subst (λ text. Stands 1 (in_brackets text) (position_data c)) (ap (λ (l : List ℕ). x ++ 44 ∷ l) (append-nil y) ∙ sym (append_assoc x (codes ",") y))
    (array_stands 0 (x ∷ y ∷ []) (number (of_integer c.x) ∷ number (of_integer c.y) ∷ []) (number_stands c.x (small c.x h.left h.right), (number_stands c.y (small c.y h.bottom h.top), tt)))

each_stands : {X : Type 0} (deep : ℕ) (text : X → List ℕ) (valued : X → Data) (P : X → Type 0) → ((x : X) → P x → Stands deep (text x) (valued x)) → (xs : List X) → AllByRecursion P xs → AllStand deep (map text xs) (map valued xs)
each_stands deep text valued P f [] h = tt
each_stands deep text valued P f (x ∷ xs) h = (f x h.0, each_stands deep text valued P f xs h.1)

commas_are : {X : Type 0} (text : X → List ℕ) (xs : List X) → with_commas (map text xs) ≡ separated text xs
commas_are text [] = refl
commas_are text (x ∷ xs) = ap (λ (l : List ℕ). text x ++ l) (flat_map-map (λ (later : List ℕ). codes "," ++ later) text xs)

list_stands : {X : Type 0} (deep : ℕ) (text : X → List ℕ) (valued : X → Data) (P : X → Type 0) → ((x : X) → P x → Stands deep (text x) (valued x)) → (xs : List X) → AllByRecursion P xs
    → Stands (suc deep) (in_brackets (separated text xs)) (array (items (map valued xs)))
list_stands deep text valued P f xs h =
    subst (λ t. Stands (suc deep) (in_brackets t) (array (items (map valued xs)))) (commas_are text xs)
    (array_stands deep (map text xs) (map valued xs) (each_stands deep text valued P f xs h))

pub all_append : {X : Type 0} (P : X → Type 0) (xs ys : List X) → AllByRecursion P xs → AllByRecursion P ys → AllByRecursion P (xs ++ ys)
all_append P [] ys h k = k
all_append P (x ∷ xs) ys h k = (h.0, all_append P xs ys h.1 k)

pub closed_in_range : (points : List Coord) → AllByRecursion IsInRange points → AllByRecursion IsInRange (closed points)
closed_in_range [] h = tt
closed_in_range (p ∷ ps) h = (h.0, all_append IsInRange ps (p ∷ []) h.1 (h.0, tt))

ring_stands : (points : List Coord) → IsGoodRing points → Stands 2 (ring_text points) (ring_data points)
ring_stands points h = list_stands 1 position_text position_data IsInRange position_stands (closed points) (closed_in_range points h.in_range)

polygon_stands : (rings : List (List Coord)) → IsGoodPolygon rings → Stands 3 (polygon_text rings) (polygon_data rings)
polygon_stands rings h = list_stands 2 ring_text ring_data IsGoodRing ring_stands rings h.rings_good

one_stands : (t : List ℕ) (d : Data) → Stands 3 t d → Stands 4 (codes "{\"coordinates\":" ++ t ++ codes ",\"type\":\"Polygon\"}") (shape_data (codes "Polygon") d)
unfolding escape_byte
one_stands t d h =
    object_stands 3 _ _ (member_stands 3 false (codes "coordinates") t _ d no_members _ (IsUtf8-are_ascii (codes "coordinates") refl) h
    (member_stands 3 true (codes "type") (quoted (codes "Polygon")) _ (string (codes "Polygon")) _ _ (IsUtf8-are_ascii (codes "type") refl) (string_stands 3 (codes "Polygon") (IsUtf8-are_ascii (codes "Polygon") refl))
    (no_member_stands 3 true _)))

several_stand : (t : List ℕ) (d : Data) → Stands 4 t d → Stands 5 (codes "{\"coordinates\":" ++ t ++ codes ",\"type\":\"MultiPolygon\"}") (shape_data (codes "MultiPolygon") d)
unfolding escape_byte
several_stand t d h =
    object_stands 4 _ _ (member_stands 4 false (codes "coordinates") t _ d no_members _ (IsUtf8-are_ascii (codes "coordinates") refl) h
    (member_stands 4 true (codes "type") (quoted (codes "MultiPolygon")) _ (string (codes "MultiPolygon")) _ _ (IsUtf8-are_ascii (codes "type") refl) (string_stands 4 (codes "MultiPolygon") (IsUtf8-are_ascii (codes "MultiPolygon") refl))
    (no_member_stands 4 true _)))

null_stands : (deep : ℕ) → Stands deep (codes "null") null
null_stands deep = record { spelling = json.null; text_is = refl; utf8 = IsUtf8-are_ascii (codes "null") refl; numbers = tt; value = refl; shallow = omega arith }

geometry_stands : (polys : List (List (List Coord))) → AllByRecursion IsGoodPolygon polys → Stands 5 (geometry_text polys) (geometry_data polys)
geometry_stands [] h = null_stands 5
geometry_stands (p ∷ []) h = deeper 4 5 _ _ (omega arith) (one_stands (polygon_text p) (polygon_data p) (polygon_stands p h.0))
geometry_stands (p ∷ q ∷ ps) h = several_stand _ _ (list_stands 3 polygon_text polygon_data IsGoodPolygon polygon_stands (p ∷ q ∷ ps) h)

-- ---- features

-- the text of a feature, where the id is null and where it isn't
abbrev feature_text_by : Bool → List ℕ → List ℕ → List ℕ → List ℕ
feature_text_by b geometry id properties =
    codes "{\"geometry\":" ++ (geometry ++ ((if b then [] else codes ",\"id\":" ++ id) ++ (codes ",\"properties\":" ++ (properties ++ codes ",\"type\":\"Feature\"}"))))

regrouped : (a g i b p c : List ℕ) → a ++ g ++ i ++ b ++ p ++ c ≡ a ++ (g ++ (i ++ (b ++ (p ++ c))))
regrouped a g i b p c = simp append_assoc

feature_type_stands : (found : Members) → MembersStand 124 true (codes ",\"type\":\"Feature\"}") found (put (codes "type") (string (codes "Feature")) found)
unfolding escape_byte
feature_type_stands found =
    member_stands 124 true (codes "type") (quoted (codes "Feature")) _ (string (codes "Feature")) found _ (IsUtf8-are_ascii (codes "type") refl) (string_stands 124 (codes "Feature") (IsUtf8-are_ascii (codes "Feature") refl))
    (no_member_stands 124 true _)

properties_stand : (p : List ℕ) (d : Data) (found : Members) → Stands 124 p d
    → MembersStand 124 true (codes ",\"properties\":" ++ p ++ codes ",\"type\":\"Feature\"}") found (put (codes "type") (string (codes "Feature")) (put (codes "properties") d found))
unfolding escape_byte
properties_stand p d found h = member_stands 124 true (codes "properties") p _ d found _ (IsUtf8-are_ascii (codes "properties") refl) h (feature_type_stands _)

feature_by : (b : Bool) (f : Feature) (g id p : List ℕ) → Stands 124 g (geometry_data f.polys) → (b ≡ false → Stands 124 id f.id) → Stands 124 p f.properties → Stands 125 (feature_text_by b g id p) (feature_data_by b f)
unfolding escape_byte
feature_by true f g id p geometry with_id properties =
    object_stands 124 _ _ (member_stands 124 false (codes "geometry") g _ (geometry_data f.polys) no_members _ (IsUtf8-are_ascii (codes "geometry") refl) geometry (properties_stand p f.properties _ properties))
feature_by false f g id p geometry with_id properties =
    object_stands 124 _ _ (member_stands 124 false (codes "geometry") g _ (geometry_data f.polys) no_members _ (IsUtf8-are_ascii (codes "geometry") refl) geometry
    (member_stands 124 true (codes "id") id _ f.id _ _ (IsUtf8-are_ascii (codes "id") refl) (with_id refl) (properties_stand p f.properties _ properties)))

feature_stands : (f : Feature) (text : List ℕ) → IsGoodFeature f → IsFeatureText f text → Stands 125 text (feature_data f)
feature_stands f text good h =
    let parts = regrouped (codes "{\"geometry\":") (geometry_text f.polys) (id_text f.id h.id) (codes ",\"properties\":") h.properties (codes ",\"type\":\"Feature\"}") in
    subst (λ t. Stands 125 t (feature_data f)) (sym (h.text_is ∙ parts))
    (feature_by (is_some (as_null f.id)) f (geometry_text f.polys) h.id h.properties (deeper 5 124 _ _ (omega arith) (geometry_stands f.polys good.polys_good))
    (λ e. value_stands 124 f.id h.id (h.id_is e) (omega (arith, good.id)) (omega arith)) (value_stands 124 f.properties h.properties h.properties_is (omega (arith, good.properties)) (omega arith)))

features_stand : (fs : List Feature) (texts : List (List ℕ)) → AllByRecursion IsGoodFeature fs → AreFeatureTexts fs texts → AllStand 125 texts (map feature_data fs)
features_stand [] [] good h = tt
features_stand [] (t ∷ ts) good h = absurd h
features_stand (f ∷ fs) [] good h = absurd h
features_stand (f ∷ fs) (t ∷ ts) good h = (feature_stands f t good.0 h.0, features_stand fs ts good.1 h.1)

-- ---- the document

collection_stands : (t : List ℕ) (d : Data) → Stands 126 t d
    → Stands 127 (codes "{\"features\":" ++ t ++ codes ",\"type\":\"FeatureCollection\"}") (object (member (codes "features") d (member (codes "type") (string (codes "FeatureCollection")) no_members)))
unfolding escape_byte
collection_stands t d h =
    object_stands 126 _ _ (member_stands 126 false (codes "features") t _ d no_members _ (IsUtf8-are_ascii (codes "features") refl) h
    (member_stands 126 true (codes "type") (quoted (codes "FeatureCollection")) _ (string (codes "FeatureCollection")) _ _ (IsUtf8-are_ascii (codes "type") refl) (string_stands 126 (codes "FeatureCollection") (IsUtf8-are_ascii (codes "FeatureCollection") refl))
    (no_member_stands 126 true _)))

-- all but the line feed at the end stands for the document's value
pub document_stands : (fs : List Feature) (texts : List (List ℕ)) → AllByRecursion IsGoodFeature fs → AreFeatureTexts fs texts
    → Stands 127 (codes "{\"features\":" ++ in_brackets (with_commas texts) ++ codes ",\"type\":\"FeatureCollection\"}") (document_data fs)
document_stands fs texts good h = collection_stands (in_brackets (with_commas texts)) (array (items (map feature_data fs))) (array_stands 125 texts (map feature_data fs) (features_stand fs texts good h))
