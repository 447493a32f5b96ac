-- What is read of a document without a fault is formed.
use Rattle.std.proofs.Common.{◌≡◌, ℕ, ◌+◌, ◌-◌, ◌^◌, ◌<◌, ◌≤◌, ℤ, pos, neg_ℤ, ◌≤ℤ◌, int_le, Bool, true, false, if◌then◌else◌, is_some, nat_lt, List, [], ◌∷◌, ◌++◌, length, map, get_or, Option, Some, None, option_map, option_and_then, unwrap_or, slice_get, refl, ap, ◌∙◌, sym, subst, arith, length-take, codes}
use Rattle.std.specs.Prelude.{⊤}
use Rattle.std.specs.List.{AllByRecursion}
use Rattle.std.proofs.lemmas.Bool.{and_parts}
use Rattle.std.proofs.lemmas.Bool.Decides.{nat_tests}
use Rattle.std.proofs.lemmas.Int.{ints}
use Rattle.std.proofs.lemmas.List.{length-map}
use Rattle.std.proofs.lemmas.List.Elements.{All-from_recursion, All-take, All-map}
use Rattle.cov_types.specs.Coverage.{IsFormed, IsRingFormed, IsPolyFormed, IsMemberFormed, IsRingInRange, IsPolyInRange, IsMemberInRange}
use Rattle.cov_types.specs.Range.{IsInRange}
use Rattle.cov_types.specs.declared.coord.TheConstants.{LIMIT}
use Rattle.serde_json.specs.Data.{Data, Num}
use Rattle.serde_json.specs.View.{view}
use Rattle.serde_json.specs.Find.{as_i64, as_null}
use Rattle.geo_json.specs.Shape.{Position, RingShape, PolygonShape, FeatureShape, member_of, items_of, is_of_type, polygon_of, multi_polygon_of, with_rings, polygons_by, geometry_of, geometry_or_null, feature_with, feature_of, bare_feature, lone_feature, collected, document_of}
use Rattle.geo_json.specs.Reading.{is_in_range, if_in_range, ordinate_of, point_of, points_of, poly_of, polys_of, polys_of_feature}
use Rattle.geo_json.specs.Fault.{ring_faults, faults_of_rings, rings_of, feature_faults, ring_count, faults_from}
use Rattle.geo_json.specs.Collecting.{AreAllRead}
use Rattle.geo_json.specs.declared.error.JsonFault.{JsonFault}
use Rattle.geo_json.specs.declared.error.JsonFault.TheVariants.{RingShort}
use Rattle.geo_json.specs.declared.collected.Collected.{Collected}

-- ---- range

abbrev Fits : ℤ → Type 0
Fits z = ((neg_ℤ LIMIT) ≤ℤ z) × (z ≤ℤ LIMIT)

zero_fits : Fits (pos 0)
zero_fits = (omega arith, omega arith)

tested_fits : (z : ℤ) (b : Bool) → is_in_range z ≡ b → Fits (unwrap_or (if b then Some z else None) (pos 0))
tested_fits z true e = let parts = and_parts (int_le (neg_ℤ LIMIT) z) (int_le z LIMIT) e in (grind (arith, ints), grind (arith, ints))
tested_fits z false e = zero_fits

integer_fits : (o : Option ℤ) → Fits (unwrap_or (option_and_then if_in_range o) (pos 0))
integer_fits None = zero_fits
integer_fits (Some z) = tested_fits z (is_in_range z) refl

ordinate_fits : (o : Option Num) → Fits (unwrap_or (option_and_then ordinate_of o) (pos 0))
ordinate_fits None = zero_fits
ordinate_fits (Some n) = integer_fits (as_i64 n)

point_in_range : (p : Position) → IsInRange (point_of p)
point_in_range p =
    let x = ordinate_fits (slice_get p 0) in
    let y = ordinate_fits (slice_get p 1) in
    record { left = x.0; right = x.1; bottom = y.0; top = y.1 }

ring_in_range : (ring : RingShape) → IsRingInRange (points_of ring)
ring_in_range ring = All-take IsInRange (length ring - 1) (map point_of ring) (All-map IsInRange point_of ring (λ k d h. point_in_range (get_or ring k d)))

poly_in_range : (rings : PolygonShape) → IsPolyInRange (poly_of rings)
poly_in_range rings = All-map IsRingInRange points_of rings (λ k d h. ring_in_range (get_or rings k d))

feature_in_range : (f : FeatureShape) → IsMemberInRange (polys_of_feature f)
feature_in_range f = All-map IsPolyInRange poly_of f.polygons (λ k d h. poly_in_range (get_or f.polygons k d))

-- ---- polygons have rings

abbrev HasRing : PolygonShape → Type 0
HasRing rings = 1 ≤ length rings

abbrev HaveRings : Option (List PolygonShape) → Type 0
HaveRings None = ⊤
HaveRings (Some polygons) = AllByRecursion HasRing polygons

abbrev IsKept : Option FeatureShape → Type 0
IsKept None = ⊤
IsKept (Some f) = AllByRecursion HasRing f.polygons

kept : (polygons : List PolygonShape) → AllByRecursion HasRing (with_rings polygons)
kept [] = tt
kept ([] ∷ polygons) = kept polygons
kept ((ring ∷ rings) ∷ polygons) = (omega arith, kept polygons)

kept_one : (o : Option PolygonShape) → HaveRings (option_map (λ rings. with_rings (rings ∷ [])) o)
kept_one None = tt
kept_one (Some rings) = kept (rings ∷ [])

kept_many : (o : Option (List PolygonShape)) → HaveRings (option_map with_rings o)
kept_many None = tt
kept_many (Some polygons) = kept polygons

polygons_kept : (one many : Bool) (d : Data) → HaveRings (polygons_by one many d)
polygons_kept true many d = kept_one (polygon_of d)
polygons_kept false true d = kept_many (multi_polygon_of d)
polygons_kept false false d = tt

geometry_kept : (d : Data) → HaveRings (geometry_of d)
geometry_kept d = polygons_kept (is_of_type (codes "Polygon") d) (is_of_type (codes "MultiPolygon") d) (member_of (codes "coordinates") d)

null_kept : (b : Bool) (o : Option (List PolygonShape)) → HaveRings o → HaveRings (if b then Some [] else o)
null_kept true o h = tt
null_kept false o h = h

shape_kept : (properties id : Data) (o : Option (List PolygonShape)) → HaveRings o → IsKept (option_map (feature_with properties id) o)
shape_kept properties id None h = tt
shape_kept properties id (Some polygons) h = h

either_kept : (b : Bool) (o p : Option FeatureShape) → IsKept o → IsKept p → IsKept (if b then o else p)
either_kept true o p h k = h
either_kept false o p h k = k

feature_kept : (d : Data) → IsKept (feature_of d)
feature_kept d =
    let geometry = member_of (codes "geometry") d in
    let shape = shape_kept (member_of (codes "properties") d) (member_of (codes "id") d) (geometry_or_null geometry) (null_kept (is_some (as_null geometry)) (geometry_of geometry) (geometry_kept geometry)) in
    either_kept (is_of_type (codes "Feature") d) _ None shape tt

lone_kept : (d : Data) → IsKept (lone_feature d)
lone_kept d = either_kept (is_of_type (codes "Feature") d) (feature_of d) (bare_feature d) (feature_kept d) (shape_kept _ _ (geometry_of d) (geometry_kept d))

list_kept : (ds : List Data) → AllByRecursion IsKept (map feature_of ds)
list_kept [] = tt
list_kept (d ∷ ds) = (feature_kept d, list_kept ds)

collected_kept : (o : Option (List Data)) → AllByRecursion IsKept (collected o)
collected_kept None = (tt, tt)
collected_kept (Some ds) = list_kept ds

document_kept_by : (b : Bool) (xs ys : List (Option FeatureShape)) → AllByRecursion IsKept xs → AllByRecursion IsKept ys → AllByRecursion IsKept (if b then xs else ys)
document_kept_by true xs ys h k = h
document_kept_by false xs ys h k = k

document_kept : (d : Data) → AllByRecursion IsKept (document_of d)
document_kept d =
    let features = items_of (member_of (codes "features") d) in
    document_kept_by (is_of_type (codes "FeatureCollection") d) (collected features) (lone_feature d ∷ []) (collected_kept features) (lone_kept d, tt)

-- ---- rings are long enough

abbrev IsLong : RingShape → Type 0
IsLong ring = 4 ≤ length ring

-- a feature whose polygons have rings, all of them long enough
record IsClean (f : FeatureShape) : Type 0 where
  kept : AllByRecursion HasRing f.polygons
  long : AllByRecursion IsLong (rings_of f.polygons)

pub no_parts : {A : Type 0} → (xs ys : List A) → xs ++ ys ≡ [] → (xs ≡ []) × (ys ≡ [])
no_parts [] ys e = (refl, e)
no_parts (x ∷ xs) ys e = absurd (cc)

test_false : (b : Bool) (number : ℕ) (others : List JsonFault) → (if b then RingShort number ∷ [] else others) ≡ [] → b ≡ false
test_false true number others e = absurd (cc)
test_false false number others e = refl

ring_long : (number : ℕ) (ring : RingShape) → ring_faults number ring ≡ [] → IsLong ring
ring_long number ring e =
    let enough : nat_lt (length ring) 4 ≡ false = test_false (nat_lt (length ring) 4) number _ e in
    grind (arith, nat_tests)

rings_long : (number : ℕ) (rings : List RingShape) → faults_of_rings number rings ≡ [] → AllByRecursion IsLong rings
rings_long number [] e = tt
rings_long number (ring ∷ rings) e =
    let parts = no_parts (ring_faults number ring) (faults_of_rings (number + 1) rings) e in
    (ring_long number ring parts.0, rings_long (number + 1) rings parts.1)

features_clean : (number rings : ℕ) (fs : List FeatureShape) → AllByRecursion IsKept (map Some fs) → faults_from number rings (map Some fs) ≡ [] → AllByRecursion IsClean fs
features_clean number rings [] h e = tt
features_clean number rings (f ∷ fs) h e =
    let parts = no_parts (feature_faults number rings (Some f)) (faults_from (number + 1) (rings + ring_count (Some f)) (map Some fs)) e in
    let its = rings_of f.polygons in
    let faults = no_parts _ _ (no_parts _ _ parts.0).1 in
    (record { kept = h.0; long = rings_long rings its faults.1 }, features_clean (number + 1) (rings + ring_count (Some f)) fs h.1 parts.1)

-- ---- shapes

both_parts : {A : Type 0} (P : A → Type 0) (xs ys : List A) → AllByRecursion P (xs ++ ys) → AllByRecursion P xs × AllByRecursion P ys
both_parts P [] ys h = (tt, h)
both_parts P (x ∷ xs) ys h = let w = both_parts P xs ys h.1 in ((h.0, w.0), w.1)

ring_formed : (ring : RingShape) → IsLong ring → IsRingFormed (points_of ring)
ring_formed ring h = omega (arith, length-take (length ring - 1) (map point_of ring), length-map ring point_of)

rings_formed : (rings : List RingShape) → AllByRecursion IsLong rings → AllByRecursion IsRingFormed (map points_of rings)
rings_formed [] h = tt
rings_formed (ring ∷ rings) h = (ring_formed ring h.0, rings_formed rings h.1)

polys_formed : (polygons : List PolygonShape) → AllByRecursion HasRing polygons → AllByRecursion IsLong (rings_of polygons) → AllByRecursion IsPolyFormed (polys_of polygons)
polys_formed [] h k = tt
polys_formed (rings ∷ polygons) h k =
    let parts = both_parts IsLong rings (rings_of polygons) k in
    ((omega (arith, h.0, length-map rings points_of), All-from_recursion IsRingFormed (poly_of rings) (rings_formed rings parts.0)), polys_formed polygons h.1 parts.1)

features_formed : (fs : List FeatureShape) → AllByRecursion IsClean fs → AllByRecursion IsMemberFormed (map polys_of_feature fs)
features_formed [] h = tt
features_formed (f ∷ fs) h = (All-from_recursion IsPolyFormed (polys_of_feature f) (polys_formed f.polygons h.0.kept h.0.long), features_formed fs h.1)

-- ---- the coverage

-- that of features, few enough
pub features_are_formed : (d : Data) (fs : List FeatureShape) → document_of d ≡ map Some fs → faults_from 0 0 (document_of d) ≡ [] → length fs < 2 ^ 32 → IsFormed (map polys_of_feature fs)
features_are_formed d fs shaped faultless few =
    let clean = features_clean 0 0 fs (subst (AllByRecursion IsKept) shaped (document_kept d)) (ap (faults_from 0 0) (sym shaped) ∙ faultless) in
    record {
      in_range = record {
        coords = All-map IsMemberInRange polys_of_feature fs (λ k d h. feature_in_range (get_or fs k d));
        count = omega (arith, length-map fs polys_of_feature, few);
      };
      shapes = All-from_recursion IsMemberFormed (map polys_of_feature fs) (features_formed fs clean);
    }

-- that of what the reader has read
pub formed : (d : Data) (c : Collected) → AreAllRead (document_of d) c → IsFormed c.members.items
formed d c all = subst IsFormed (sym all.collected.members) (features_are_formed d all.features all.shaped all.faultless all.collected.fits)

-- the three lists have equal length
pub even : (document : List (Option FeatureShape)) (c : Collected) → AreAllRead document c → (length c.properties.items ≡ length c.members.items) × (length c.ids.items ≡ length c.members.items)
even document c all =
    let members = ap length all.collected.members ∙ length-map all.features polys_of_feature in
    let properties = sym (length-map c.properties.items view) ∙ ap length all.collected.properties ∙ length-map all.features (λ (f : FeatureShape). f.properties) in
    let ids = sym (length-map c.ids.items view) ∙ ap length all.collected.ids ∙ length-map all.features (λ (f : FeatureShape). f.id) in
    (properties ∙ sym members, ids ∙ sym members)
