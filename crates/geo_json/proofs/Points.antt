-- The points of positions and of rings, and the faults of rings.
use Rattle.std.proofs.Common.{◌≡◌, ℕ, ℤ, zero, suc, ◌+◌, ◌-◌, ◌<◌, ◌≤◌, pos, Bool, true, false, not, if◌then◌else◌, nat_lt, List, [], ◌∷◌, ◌++◌, length, map, take, Option, Some, None, option_and_then, unwrap_or, refl, ap, ◌∙◌, sym, arith}
use Rattle.std.specs.Bool.{then_some}
use Rattle.std.proofs.lemmas.List.{length-map, append-nil, map-append}
use Rattle.std.proofs.lemmas.List.Elements.{filter-append}
use Rattle.std.proofs.lemmas.Bool.Decides.{nat_tests}
use Rattle.cov_types.specs.declared.coord.Coord.{Coord}
use Rattle.serde_json.specs.Data.{Data, Num}
use Rattle.serde_json.specs.Find.{as_number}
use Rattle.geo_json.specs.Shape.{items_of, each, RingShape, PolygonShape, has_rings, with_rings, if_position, position_of}
use Rattle.geo_json.specs.Reading.{ordinate_of, point_of, poly_of}
use Rattle.geo_json.specs.Fault.{first, extra_faults, ring_faults, is_closed}
use Rattle.geo_json.specs.Noting.{placed, noting, noting_numbers, noting_positions, IsTaken, IsPositionTaken, IsRingTaken}
use Rattle.geo_json.specs.declared.error.JsonFault.{JsonFault}
use Rattle.geo_json.specs.declared.error.JsonFault.TheVariants.{RingShort, RingOpen}
use Rattle.geo_json.specs.declared.first_faults.FirstFaults.{FirstFaults}
use Rattle.geo_json.proofs.Taking.{each_length, array_read, array_not_taken}
use Rattle.geo_json.proofs.Notes.{noting_position, noting_ring}

-- ---- positions

-- the coordinate of a number, or 0
abbrev pub ordinate : Num → ℤ
ordinate n = unwrap_or (ordinate_of n) (pos 0)

further : (p : Coord) (place : ℕ) (x : ℤ) → 2 ≤ place → placed p place x ≡ p
further p place x h = grind (arith, nat_tests)

-- what a number more makes of the point
at_place : (place : ℕ) (numbers : List Num) (n : Num) → length numbers ≡ place → placed (point_of numbers) place (ordinate n) ≡ point_of (numbers ++ n ∷ [])
at_place zero [] n len = refl
at_place zero (a ∷ numbers) n len = absurd (omega arith)
at_place (suc place) [] n len = absurd (omega arith)
at_place (suc zero) (a ∷ []) n len = refl
at_place (suc zero) (a ∷ b ∷ numbers) n len = absurd (omega arith)
at_place (suc (suc place)) (a ∷ []) n len = absurd (omega arith)
at_place (suc (suc place)) (a ∷ b ∷ numbers) n len = further (point_of (a ∷ b ∷ numbers)) (suc (suc place)) (ordinate n) (omega arith)

pub number_placed : (p : Coord) (place : ℕ) (x : ℤ) (with_it : Coord) → with_it ≡ placed p place x → (numbers : List Num) (n : Num) → length numbers ≡ place → p ≡ point_of numbers → x ≡ ordinate n → with_it ≡ point_of (numbers ++ n ∷ [])
number_placed p place x with_it given numbers n len is number_is = given ∙ (λ k. placed (is k) place (number_is k)) ∙ at_place place numbers n len

-- two numbers or more
at_least_two : (numbers : List Num) → 2 ≤ length numbers → if_position numbers ≡ Some numbers
at_least_two numbers h = grind (arith, nat_tests)

pub position_taken : (d : Data) (ds : List Data) (before mid after : FirstFaults) (p : Coord) (count : ℕ) → Some ds ≡ items_of d → count ≡ length ds → 2 ≤ count
    → IsTaken (each as_number) point_of noting_numbers ds before p mid → after ≡ noting (extra_faults mid.feature count) [] [] 0 mid → IsPositionTaken d before p after
position_taken d ds before mid after p count is counted two all noted =
    let same : length all.item ≡ length ds = each_length as_number ds all.item all.read in
    record {
      item = all.item;
      read = ap (option_and_then if_position) (array_read as_number d ds all.item is all.read) ∙ at_least_two all.item (omega arith);
      value = all.value;
      noted = noted ∙ ap (λ (m : FirstFaults). noting (extra_faults m.feature count) [] [] 0 m) all.noted
          ∙ ap (λ n. noting (extra_faults before.feature n) [] [] 0 (noting_numbers all.item before)) (counted ∙ sym same) ∙ noting_position all.item before;
    }

less_than_two : (numbers : List Num) → length numbers < 2 → if_position numbers ≡ None
less_than_two numbers h = grind (arith, nat_tests)

too_few : (o : Option (List Num)) → ((numbers : List Num) → o ≡ Some numbers → if_position numbers ≡ None) → option_and_then if_position o ≡ None
too_few None h = refl
too_few (Some numbers) h = h numbers refl

-- fewer values than two are no position
pub no_position : (d : Data) (ds : List Data) → Some ds ≡ items_of d → length ds < 2 → position_of d ≡ None
no_position d ds is h = ap (λ o. option_and_then if_position (option_and_then (each as_number) o)) (sym is) ∙ too_few (each as_number ds) (λ numbers e. less_than_two numbers (omega (arith, each_length as_number ds numbers e)))

pub numbers_missing : (d : Data) (ds : List Data) → Some ds ≡ items_of d → each as_number ds ≡ None → position_of d ≡ None
numbers_missing d ds is none = ap (option_and_then if_position) (array_not_taken as_number d ds is none)

pub no_numbers : (d : Data) → None ≡ items_of d → position_of d ≡ None
no_numbers d is = ap (λ o. option_and_then if_position (option_and_then (each as_number) o)) (sym is)

-- ---- rings

open_or_not : (number : ℕ) (closed : Bool) → then_some (not closed) (RingOpen number) ≡ first (if closed then [] else RingOpen number ∷ [])
open_or_not number true = refl
open_or_not number false = refl

-- the fault of a ring of four positions or more
pub long_ring : (number : ℕ) (points : List Coord) (closed : Bool) (answer : Option JsonFault) (ring : RingShape) → 4 ≤ length points → points ≡ map point_of ring
    → closed ≡ is_closed ring → answer ≡ then_some (not closed) (RingOpen number) → answer ≡ first (ring_faults number ring)
long_ring number points closed answer ring long is same given =
    let count : length points ≡ length ring = ap length is ∙ length-map ring point_of in
    let enough : nat_lt (length ring) 4 ≡ false = grind (arith, nat_tests) in
    given ∙ open_or_not number closed ∙ ap (λ b. first (if b then [] else RingOpen number ∷ [])) same
    ∙ ap (λ b. first (if b then RingShort number ∷ [] else (if is_closed ring then [] else RingOpen number ∷ []))) (sym enough)

pub ring_taken : (d : Data) (ds : List Data) (before mid after : FirstFaults) (points without : List Coord) → Some ds ≡ items_of d
    → IsTaken (each position_of) (λ items. map point_of items) noting_positions ds before points mid
    → ((ring : RingShape) → points ≡ map point_of ring → after ≡ noting [] [] (ring_faults mid.rings ring) 1 mid)
    → without ≡ take (length points - 1) points → IsRingTaken d before without after
ring_taken d ds before mid after points without is all noted rest =
    let count : length points ≡ length all.item = ap length all.value ∙ length-map all.item point_of in
    let same : before.rings + 0 ≡ before.rings = omega arith in
    record {
      item = all.item;
      read = array_read position_of d ds all.item is all.read;
      value = rest ∙ ap (λ n. take (n - 1) points) count ∙ ap (take (length all.item - 1)) all.value;
      noted = noted all.item all.value ∙ ap (λ (m : FirstFaults). noting [] [] (ring_faults m.rings all.item) 1 m) all.noted
          ∙ ap (λ n. noting [] [] (ring_faults n all.item) 1 (noting_positions all.item before)) same ∙ noting_ring all.item before;
    }

-- ---- polygons

-- a polygon without rings is left out
pub left_out : (polygon : PolygonShape) (poly : List (List Coord)) (polys : List (List (List Coord))) → poly ≡ poly_of polygon → length poly ≡ 0 → polys ≡ polys ++ map poly_of (with_rings (polygon ∷ []))
left_out [] poly polys is none = sym (append-nil polys)
left_out (ring ∷ rings) poly polys is none = absurd (omega (arith, ap length is))

-- a polygon with rings is kept
pub kept : (polygon : PolygonShape) (poly : List (List Coord)) (polys : List (List (List Coord))) → poly ≡ poly_of polygon → (length poly ≡ 0 → ⊥) → polys ++ poly ∷ [] ≡ polys ++ map poly_of (with_rings (polygon ∷ []))
kept [] poly polys is some = absurd (some (ap length is))
kept (ring ∷ rings) poly polys is some = ap (λ p. polys ++ p ∷ []) is

-- behind others
pub kept_behind : (polygons : List PolygonShape) (polygon : PolygonShape) (polys : List (List (List Coord))) → polys ≡ map poly_of (with_rings polygons)
    → polys ++ map poly_of (with_rings (polygon ∷ [])) ≡ map poly_of (with_rings (polygons ++ polygon ∷ []))
kept_behind polygons polygon polys is =
    ap (λ (l : List (List (List Coord))). l ++ map poly_of (with_rings (polygon ∷ []))) is
    ∙ sym (map-append poly_of (with_rings polygons) (with_rings (polygon ∷ []))) ∙ ap (map poly_of) (sym (filter-append has_rings polygons (polygon ∷ [])))
