-- What the value of a written document is read as.
use Rattle.std.proofs.Common.{◌≡◌, ℕ, ◌-◌, ◌^◌, ℤ, pos, negsuc, neg_ℤ, ◌≤ℤ◌, Bool, true, false, is_some, nat_lt, List, [], ◌∷◌, length, length-append, map, take, Option, Some, option_map, option_and_then, unwrap_or, refl, ap, ap₂, sym, ◌∙◌, arith, lt-ltb}
use Rattle.std.specs.List.{AllByRecursion}
use Rattle.std.proofs.Math.Seq.{take-append_seam}
use Rattle.std.proofs.lemmas.Int.{ints}
use Rattle.std.proofs.lemmas.List.{length-map}
use Rattle.cov_types.specs.Coverage.{Members}
use Rattle.cov_types.specs.Range.{IsInRange}
use Rattle.cov_types.specs.declared.coord.Coord.{Coord}
use Rattle.cov_types.specs.declared.coord.TheConstants.{LIMIT}
use Rattle.serde_json.specs.Data.{Data, null, boolean, number, string, array, object}
use Rattle.serde_json.specs.Find.{as_null, of_integer}
use Rattle.geo_json.specs.Shape.{Position, RingShape, PolygonShape, FeatureShape, item_list, each, array_of, with_rings, position_of, ring_of, polygon_of, geometry_or_null, feature_with, feature_of, document_of}
use Rattle.geo_json.specs.Reading.{is_in_range, ordinate_of, point_of, points_of, poly_of, polys_of, polys_of_feature, Reading, reading_of}
use Rattle.json_write.specs.Text.{Feature, features_from}
use Rattle.json_write.proofs.Standing.{items}
use Rattle.json_write.proofs.DocumentData.{closed, closed_in_range, position_data, ring_data, polygon_data, geometry_data, feature_data_by, feature_data, document_data, IsGoodRing, IsGoodPolygon, IsGoodFeature}

abbrev pub position_shape : Coord → Position
position_shape c = of_integer c.x ∷ of_integer c.y ∷ []

abbrev pub ring_shape : List Coord → RingShape
ring_shape points = map position_shape (closed points)

abbrev pub polygon_shape : List (List Coord) → PolygonShape
polygon_shape rings = map ring_shape rings

abbrev pub feature_shape : Feature → FeatureShape
feature_shape f = record { polygons = map polygon_shape f.polys; properties = f.properties; id = f.id }

-- ---- arrays

items_are : (ds : List Data) → item_list (items ds) ≡ ds
items_are [] = refl
items_are (d ∷ ds) = ap (λ (l : List Data). d ∷ l) (items_are ds)

each_read : {X A : Type 0} (f : Data → Option A) (valued : X → Data) (shape : X → A) → ((x : X) → f (valued x) ≡ Some (shape x)) → (xs : List X) → each f (map valued xs) ≡ Some (map shape xs)
each_read f valued shape h [] = refl
each_read f valued shape h (x ∷ xs) =
    ap (option_and_then (λ a. option_map (λ rest. a ∷ rest) (each f (map valued xs)))) (h x)
    ∙ ap (option_map (λ rest. shape x ∷ rest)) (each_read f valued shape h xs)

array_read : {X A : Type 0} (f : Data → Option A) (valued : X → Data) (shape : X → A) → ((x : X) → f (valued x) ≡ Some (shape x)) → (xs : List X) → array_of f (array (items (map valued xs))) ≡ Some (map shape xs)
array_read f valued shape h xs = ap (each f) (items_are (map valued xs)) ∙ each_read f valued shape h xs

-- ---- geometries

position_read : (c : Coord) → position_of (position_data c) ≡ Some (position_shape c)
position_read c = refl

ring_read : (points : List Coord) → ring_of (ring_data points) ≡ Some (ring_shape points)
ring_read points = array_read position_of position_data position_shape position_read (closed points)

polygon_read : (rings : List (List Coord)) → polygon_of (polygon_data rings) ≡ Some (polygon_shape rings)
polygon_read rings = array_read ring_of ring_data ring_shape ring_read rings

kept : (polys : List (List (List Coord))) → AllByRecursion IsGoodPolygon polys → with_rings (map polygon_shape polys) ≡ map polygon_shape polys
kept [] h = refl
kept ([] ∷ polys) h = absurd (omega (arith, h.0.some_ring))
kept ((r ∷ rs) ∷ polys) h = ap (λ (l : List PolygonShape). polygon_shape (r ∷ rs) ∷ l) (kept polys h.1)

geometry_read : (polys : List (List (List Coord))) → AllByRecursion IsGoodPolygon polys → geometry_or_null (geometry_data polys) ≡ Some (map polygon_shape polys)
geometry_read [] h = refl
geometry_read (p ∷ []) h = ap (option_map (λ rings. with_rings (rings ∷ []))) (polygon_read p) ∙ ap Some (kept (p ∷ []) h)
geometry_read (p ∷ q ∷ ps) h =
    let polys = p ∷ q ∷ ps in
    ap (option_map with_rings) (array_read polygon_of polygon_data polygon_shape polygon_read polys) ∙ ap Some (kept polys h)

-- ---- features

null_is : (d : Data) → is_some (as_null d) ≡ true → d ≡ null
null_is null e = refl
null_is (boolean b) e = absurd (cc)
null_is (number n) e = absurd (cc)
null_is (string s) e = absurd (cc)
null_is (array ds) e = absurd (cc)
null_is (object ms) e = absurd (cc)

feature_read_by : (b : Bool) (f : Feature) → is_some (as_null f.id) ≡ b → IsGoodFeature f → feature_of (feature_data_by b f) ≡ Some (feature_shape f)
feature_read_by true f e good =
    ap (option_map (feature_with f.properties null)) (geometry_read f.polys good.polys_good)
    ∙ ap (λ i. Some (feature_with f.properties i (map polygon_shape f.polys))) (sym (null_is f.id e))
feature_read_by false f e good = ap (option_map (feature_with f.properties f.id)) (geometry_read f.polys good.polys_good)

features_read : (fs : List Feature) → AllByRecursion IsGoodFeature fs → map feature_of (map feature_data fs) ≡ map Some (map feature_shape fs)
features_read [] good = refl
features_read (f ∷ fs) good = ap₂ (λ (o : Option FeatureShape) os. o ∷ os) (feature_read_by (is_some (as_null f.id)) f refl good.0) (features_read fs good.1)

pub document_read : (fs : List Feature) → AllByRecursion IsGoodFeature fs → document_of (document_data fs) ≡ map Some (map feature_shape fs)
document_read fs good = ap (map feature_of) (items_are (map feature_data fs)) ∙ features_read fs good

-- ---- coordinates

pub number_read : (z : ℤ) → (neg_ℤ LIMIT) ≤ℤ z → z ≤ℤ LIMIT → ordinate_of (of_integer z) ≡ Some z
number_read (pos n) low high =
    let fits : nat_lt n (2 ^ 63) ≡ true = lt-ltb n (2 ^ 63) (omega (arith, ints, high)) in
    let within : is_in_range (pos n) ≡ true = grind (arith, ints, low, high) in
    rw fits (rw within refl)
number_read (negsuc n) low high =
    let within : is_in_range (negsuc n) ≡ true = grind (arith, ints, low, high) in
    rw within refl

point_read : (c : Coord) → IsInRange c → point_of (position_shape c) ≡ c
point_read c h =
    ap₂ (λ (x y : Option ℤ). let d : Coord = record { x = unwrap_or x (pos 0); y = unwrap_or y (pos 0) } in d) (number_read c.x h.left h.right) (number_read c.y h.bottom h.top)

positions_read : (cs : List Coord) → AllByRecursion IsInRange cs → map point_of (map position_shape cs) ≡ cs
positions_read [] h = refl
positions_read (c ∷ cs) h = ap₂ (λ (d : Coord) ds. d ∷ ds) (point_read c h.0) (positions_read cs h.1)

points_read : (points : List Coord) → IsGoodRing points → points_of (ring_shape points) ≡ points
points_read [] h = absurd (omega (arith, h.long))
points_read (p ∷ ps) h =
    let points = p ∷ ps in
    let count : length (ring_shape points) - 1 ≡ length points = omega (arith, length-map (closed points) position_shape, length-append points (p ∷ [])) in
    ap₂ (λ (n : ℕ) (cs : List Coord). take n cs) count (positions_read (closed points) (closed_in_range points h.in_range)) ∙ take-append_seam points (p ∷ [])

poly_read : (rings : List (List Coord)) → AllByRecursion IsGoodRing rings → poly_of (polygon_shape rings) ≡ rings
poly_read [] h = refl
poly_read (r ∷ rs) h = ap₂ (λ (q : List Coord) qs. q ∷ qs) (points_read r h.0) (poly_read rs h.1)

polys_read : (polys : List (List (List Coord))) → AllByRecursion IsGoodPolygon polys → polys_of (map polygon_shape polys) ≡ polys
polys_read [] h = refl
polys_read (p ∷ ps) h = ap₂ (λ (q : List (List Coord)) qs. q ∷ qs) (poly_read p h.0.rings_good) (polys_read ps h.1)

-- ---- what was written, of a property and an id for each member

members_read : (ms : Members) (ps is : List Data) → length ps ≡ length ms → length is ≡ length ms → AllByRecursion IsGoodFeature (features_from ms ps is) → map polys_of_feature (map feature_shape (features_from ms ps is)) ≡ ms
members_read [] ps is h k good = refl
members_read (m ∷ ms) [] is h k good = absurd (omega arith)
members_read (m ∷ ms) (p ∷ ps) [] h k good = absurd (omega arith)
members_read (m ∷ ms) (p ∷ ps) (i ∷ is) h k good = ap₂ (λ (n : List (List (List Coord))) ns. n ∷ ns) (polys_read m good.0.polys_good) (members_read ms ps is (omega arith) (omega arith) good.1)

properties_read : (ms : Members) (ps is : List Data) → length ps ≡ length ms → length is ≡ length ms → map (λ (f : FeatureShape). f.properties) (map feature_shape (features_from ms ps is)) ≡ ps
properties_read [] [] is h k = refl
properties_read [] (p ∷ ps) is h k = absurd (omega arith)
properties_read (m ∷ ms) [] is h k = absurd (omega arith)
properties_read (m ∷ ms) (p ∷ ps) [] h k = absurd (omega arith)
properties_read (m ∷ ms) (p ∷ ps) (i ∷ is) h k = ap (λ (l : List Data). p ∷ l) (properties_read ms ps is (omega arith) (omega arith))

ids_read : (ms : Members) (ps is : List Data) → length ps ≡ length ms → length is ≡ length ms → map (λ (f : FeatureShape). f.id) (map feature_shape (features_from ms ps is)) ≡ is
ids_read [] ps [] h k = refl
ids_read [] ps (i ∷ is) h k = absurd (omega arith)
ids_read (m ∷ ms) [] is h k = absurd (omega arith)
ids_read (m ∷ ms) (p ∷ ps) [] h k = absurd (omega arith)
ids_read (m ∷ ms) (p ∷ ps) (i ∷ is) h k = ap (λ (l : List Data). i ∷ l) (ids_read ms ps is (omega arith) (omega arith))

pub reading_read : (ms : Members) (ps is : List Data) → length ps ≡ length ms → length is ≡ length ms → AllByRecursion IsGoodFeature (features_from ms ps is)
    → (let r : Reading = record { members = ms; properties = ps; ids = is } in r) ≡ reading_of (map feature_shape (features_from ms ps is))
reading_read ms ps is h k good =
    let members = members_read ms ps is h k good in
    let properties = properties_read ms ps is h k in
    let ids = ids_read ms ps is h k in
    sym (λ j. record { members = members j; properties = properties j; ids = ids j })
