-- A written document has no fault.
use Rattle.std.proofs.Common.{◌≡◌, ℕ, ◌+◌, ◌-◌, ℤ, pos, negsuc, neg_ℤ, ◌≤ℤ◌, true, false, if◌then◌else◌, is_some, nat_lt, List, [], ◌∷◌, ◌++◌, length, length-append, map, get_or, Option, Some, refl, ap, ap₂, ◌∙◌, arith}
use Rattle.std.specs.List.{flat_map, AllByRecursion}
use Rattle.std.proofs.Math.Seq.{get_or-append_seam}
use Rattle.std.proofs.lemmas.Bool.{and_from}
use Rattle.std.proofs.lemmas.Bool.Decides.{nat_tests, Decides-int_eq}
use Rattle.std.proofs.lemmas.Grind.{flat_map-append}
use Rattle.std.proofs.lemmas.List.{length-map, map-append}
use Rattle.cov_types.specs.Coord.{is_same_coord}
use Rattle.cov_types.specs.Range.{IsInRange}
use Rattle.cov_types.specs.declared.coord.Coord.{Coord}
use Rattle.cov_types.specs.declared.coord.TheConstants.{LIMIT}
use Rattle.serde_json.specs.Find.{of_integer}
use Rattle.geo_json.specs.Shape.{Position, RingShape}
use Rattle.geo_json.specs.Reading.{point_of}
use Rattle.geo_json.specs.Fault.{planar_faults, number_faults, is_closed, ring_faults, faults_of_rings, rings_of, positions_of, numbers_of, feature_faults, ring_count, faults_from}
use Rattle.geo_json.specs.declared.error.JsonFault.TheVariants.{OutOfRange, RingShort, RingOpen}
use Rattle.json_write.specs.Text.{Feature}
use Rattle.json_write.proofs.DocumentData.{closed, closed_in_range, all_append, IsGoodRing, IsGoodPolygon, IsGoodFeature}
use Rattle.json_write.proofs.Shapes.{position_shape, ring_shape, polygon_shape, feature_shape, number_read}

both_empty : {A : Type 0} (xs ys : List A) → xs ≡ [] → ys ≡ [] → xs ++ ys ≡ []
both_empty {A} xs ys e f = ap₂ (λ (ps qs : List A). ps ++ qs) e f

-- ---- rings

-- the ring has no fault, whatever its number and that of its feature
record IsRingClean (ring : RingShape) : Type 0 where
  planar : (feature : ℕ) → flat_map (planar_faults feature) ring ≡ []
  numeric : (feature : ℕ) → flat_map (number_faults feature) (numbers_of ring) ≡ []
  long_and_closed : (number : ℕ) → ring_faults number ring ≡ []

number_fine : (feature : ℕ) (z : ℤ) → (neg_ℤ LIMIT) ≤ℤ z → z ≤ℤ LIMIT → number_faults feature (of_integer z) ≡ []
number_fine feature (pos n) low high = ap (λ (o : Option ℤ). if is_some o then [] else OutOfRange feature ∷ []) (number_read (pos n) low high)
number_fine feature (negsuc n) low high = ap (λ (o : Option ℤ). if is_some o then [] else OutOfRange feature ∷ []) (number_read (negsuc n) low high)

positions_planar : (feature : ℕ) (cs : List Coord) → flat_map (planar_faults feature) (map position_shape cs) ≡ []
positions_planar feature [] = refl
positions_planar feature (c ∷ cs) = positions_planar feature cs

positions_numeric : (feature : ℕ) (cs : List Coord) → AllByRecursion IsInRange cs → flat_map (number_faults feature) (numbers_of (map position_shape cs)) ≡ []
positions_numeric feature [] h = refl
positions_numeric feature (c ∷ cs) h =
    both_empty (number_faults feature (of_integer c.x)) _ (number_fine feature c.x h.0.left h.0.right)
    (both_empty (number_faults feature (of_integer c.y)) _ (number_fine feature c.y h.0.bottom h.0.top) (positions_numeric feature cs h.1))

same_itself : (c : Coord) → is_same_coord c c ≡ true
same_itself c = and_from _ _ ((Decides-int_eq c.x c.x).1 refl) ((Decides-int_eq c.y c.y).1 refl)

last_position : (points : List Coord) (p : Coord) → get_or (map position_shape (points ++ p ∷ [])) (length (map position_shape (points ++ p ∷ [])) - 1) [] ≡ position_shape p
last_position points p =
    let front = map position_shape points in
    let whole : map position_shape (points ++ p ∷ []) ≡ front ++ position_shape p ∷ [] = map-append position_shape points (p ∷ []) in
    let count : length (front ++ position_shape p ∷ []) - 1 ≡ length front = omega (arith, length-append front (position_shape p ∷ [])) in
    ap (λ (ring : RingShape). get_or ring (length ring - 1) []) whole ∙ ap (λ n. get_or (front ++ position_shape p ∷ []) n []) count ∙ get_or-append_seam front (position_shape p) [] []

ring_fine : (points : List Coord) → IsGoodRing points → (number : ℕ) → ring_faults number (ring_shape points) ≡ []
ring_fine [] h number = absurd (omega (arith, h.long))
ring_fine (p ∷ ps) h number =
    let ring = ring_shape (p ∷ ps) in
    let count : length ring ≡ length (p ∷ ps) + 1 = length-map (closed (p ∷ ps)) position_shape ∙ length-append (p ∷ ps) (p ∷ []) in
    let enough : nat_lt (length ring) 4 ≡ false = grind (arith, nat_tests, h.long) in
    let meets : is_closed ring ≡ true = ap (λ (q : Position). is_same_coord (point_of q) (point_of (position_shape p))) (last_position (p ∷ ps) p) ∙ same_itself (point_of (position_shape p)) in
    ap (λ b. if b then RingShort number ∷ [] else (if is_closed ring then [] else RingOpen number ∷ [])) enough ∙ ap (λ b. if b then [] else RingOpen number ∷ []) meets

ring_clean : (points : List Coord) → IsGoodRing points → IsRingClean (ring_shape points)
ring_clean points h = record {
  planar = λ feature. positions_planar feature (closed points);
  numeric = λ feature. positions_numeric feature (closed points) (closed_in_range points h.in_range);
  long_and_closed = ring_fine points h;
}

polygon_clean : (rings : List (List Coord)) → AllByRecursion IsGoodRing rings → AllByRecursion IsRingClean (polygon_shape rings)
polygon_clean [] h = tt
polygon_clean (r ∷ rs) h = (ring_clean r h.0, polygon_clean rs h.1)

polygons_clean : (polys : List (List (List Coord))) → AllByRecursion IsGoodPolygon polys → AllByRecursion IsRingClean (rings_of (map polygon_shape polys))
polygons_clean [] h = tt
polygons_clean (p ∷ ps) h = all_append IsRingClean (polygon_shape p) (rings_of (map polygon_shape ps)) (polygon_clean p h.0.rings_good) (polygons_clean ps h.1)

-- ---- the rings of a feature

rings_planar : (feature : ℕ) (rings : List RingShape) → AllByRecursion IsRingClean rings → flat_map (planar_faults feature) (positions_of rings) ≡ []
rings_planar feature [] h = refl
rings_planar feature (r ∷ rs) h = flat_map-append (planar_faults feature) r (positions_of rs) ∙ both_empty (flat_map (planar_faults feature) r) _ (h.0.planar feature) (rings_planar feature rs h.1)

rings_numeric : (feature : ℕ) (rings : List RingShape) → AllByRecursion IsRingClean rings → flat_map (number_faults feature) (numbers_of (positions_of rings)) ≡ []
rings_numeric feature [] h = refl
rings_numeric feature (r ∷ rs) h =
    ap (flat_map (number_faults feature)) (flat_map-append (λ (position : Position). position) r (positions_of rs))
    ∙ flat_map-append (number_faults feature) (numbers_of r) (numbers_of (positions_of rs))
    ∙ both_empty (flat_map (number_faults feature) (numbers_of r)) _ (h.0.numeric feature) (rings_numeric feature rs h.1)

rings_fine : (number : ℕ) (rings : List RingShape) → AllByRecursion IsRingClean rings → faults_of_rings number rings ≡ []
rings_fine number [] h = refl
rings_fine number (r ∷ rs) h = both_empty (ring_faults number r) (faults_of_rings (number + 1) rs) (h.0.long_and_closed number) (rings_fine (number + 1) rs h.1)

-- ---- features

feature_fine : (feature ring : ℕ) (f : Feature) → IsGoodFeature f → feature_faults feature ring (Some (feature_shape f)) ≡ []
feature_fine feature ring f good =
    let rings = rings_of (map polygon_shape f.polys) in
    let clean = polygons_clean f.polys good.polys_good in
    both_empty (flat_map (planar_faults feature) (positions_of rings)) _ (rings_planar feature rings clean)
    (both_empty (flat_map (number_faults feature) (numbers_of (positions_of rings))) (faults_of_rings ring rings) (rings_numeric feature rings clean) (rings_fine ring rings clean))

pub no_faults : (feature ring : ℕ) (fs : List Feature) → AllByRecursion IsGoodFeature fs → faults_from feature ring (map Some (map feature_shape fs)) ≡ []
no_faults feature ring [] good = refl
no_faults feature ring (f ∷ fs) good =
    let shape = Some (feature_shape f) in
    both_empty (feature_faults feature ring shape) (faults_from (feature + 1) (ring + ring_count shape) (map Some (map feature_shape fs))) (feature_fine feature ring f good.0) (no_faults (feature + 1) (ring + ring_count shape) fs good.1)
