-- Two regions in one part, a hole that touches its shell, and the two polygons of a bow-tie.
use mathlib.Core.List.{[], ◌∷◌}
use Rattle.std.proofs.Common.{◌≡◌, inl, inr, refl, sym, ◌∙◌, ap, subst, ℕ, ◌<◌, ◌==◌, true, false, List, ◌++◌, IsTrue, arith}
use Rattle.std.specs.Prelude.{Contains, Some, flat_map, unwrap_or}
use Rattle.std.proofs.lemmas.Bool.{false≢true}
use Rattle.std.proofs.lemmas.Int.{ints}
use Rattle.std.proofs.lemmas.List.Elements.{All-from_recursion, All-contains}
use Rattle.std.proofs.lemmas.List.Sorted.{Contains-permutation, IsPermutation-sym}
use Rattle.cov_types.specs.declared.coord.Coord.{Coord}
use Rattle.cov_types.specs.declared.seg.Seg.{Seg}
use Rattle.cov_types.specs.Coord.{is_same_coord}
use Rattle.cov_types.specs.Uses.{sides}
use Rattle.plane.specs.Examples.{grid, segment}
use Rattle.plane.specs.Length.{root, edge_length}
use Rattle.plane.specs.Noded.{MeetInEnds, IsNodedFully}
use Rattle.plane.specs.Ray.{sweep}
use Rattle.plane.specs.Segment.{side, turn_of}
use Rattle.plane.proofs.Sides.{side_zero-on}
use Rattle.arrangement.specs.Examples.{at, overlap}
use Rattle.arrangement.specs.Measure.{trapezoid}
use Rattle.arrangement.specs.Square.{shell}
use Rattle.arrangement.proofs.Short.{both_in, coords_apart}
use Rattle.arrangement.proofs.SquareOverlay.{noded}
use Rattle.sound_polygons.specs.Examples.{notched, hole, pinched}
use Rattle.sound_polygons.specs.Instances.{overlap_owners, bow, left_wing, right_wing, crossed_wings, PolygonExamples}
use Rattle.sound_polygons.specs.Parts.{LeadsWithin, InOnePart, IsSimple, GoRoundPart, IsSound, boundary, corners, is_free_corner, is_clockwise}
use Rattle.sound_polygons.proofs.Ways.{ways_reordered}

-- ---- parts

two_in_one : InOnePart overlap overlap_owners 0 1 7
unfolding sweep side trapezoid root edge_length
two_in_one = (7 ∷ [], (refl, record { edge = 3; listed = omega arith; sides = inl (refl, refl) }, (refl, refl)))

last_owned : (r : ℕ) (way : List ℕ) (s : ℕ) → LeadsWithin overlap overlap_owners 0 r way s → overlap_owners s ≡ Some 0
last_owned r [] s h = subst (λ q. overlap_owners q ≡ Some 0) h.1 h.0
last_owned r (g ∷ way) s h = last_owned g way s h.2

other_than : (a b : ℕ) → Some a ≡ Some b → b < a → ⊥
other_than a b h less = let e : a ≡ b = ap (λ o. unwrap_or o a) h in omega arith

not_in_one : ¬ InOnePart overlap overlap_owners 0 1 13
unfolding sweep side trapezoid root edge_length
not_in_one h = other_than 1 0 (last_owned 1 h.0 13 h.1) (omega arith)

-- ---- triangles are simple

meet-sym : (s t : Seg) → MeetInEnds s t → MeetInEnds t s
meet-sym s t (inl same) = inl (sym same)
meet-sym s t (inr ends) = inr (λ r h. (let both = ends r (h.1, h.0) in (both.1, both.0)))

-- three edges of which each two meet in ends
three_noded : (a b c : Seg) → MeetInEnds a b → MeetInEnds a c → MeetInEnds b c → IsNodedFully (a ∷ b ∷ c ∷ [])
three_noded a b c ab ac bc e f has_e has_f = both_in MeetInEnds (a ∷ b ∷ c ∷ []) e f (
  (inl refl, (ab, (ac, tt))),
  (
    (meet-sym a b ab, (inl refl, (bc, tt))),
    ((meet-sym a c ac, (meet-sym b c bc, (inl refl, tt))), tt),
  ),
) has_e has_f

abbrev hole_first : Seg
hole_first = segment (grid 0 0) (grid 3 6) refl

abbrev hole_second : Seg
hole_second = segment (grid 3 6) (grid 6 3) refl

abbrev hole_third : Seg
hole_third = segment (grid 0 0) (grid 6 3) refl

first_second : MeetInEnds hole_first hole_second
unfolding side
first_second = inr (λ r h. (let s = side_zero-on hole_first r h.0 in let t = side_zero-on hole_second r h.1 in (inr (omega (arith, ints), omega (arith, ints)), inl (omega (arith, ints), omega (arith, ints)))))

first_third : MeetInEnds hole_first hole_third
unfolding side
first_third = inr (λ r h. (let s = side_zero-on hole_first r h.0 in let t = side_zero-on hole_third r h.1 in (inl (omega (arith, ints), omega (arith, ints)), inl (omega (arith, ints), omega (arith, ints)))))

second_third : MeetInEnds hole_second hole_third
unfolding side
second_third = inr (λ r h. (let s = side_zero-on hole_second r h.0 in let t = side_zero-on hole_third r h.1 in (inr (omega (arith, ints), omega (arith, ints)), inr (omega (arith, ints), omega (arith, ints)))))

hole_simple : IsSimple hole
hole_simple = record { long = omega arith; different = coords_apart hole refl; noded = three_noded hole_first hole_second hole_third first_second first_third second_third }

inner_simple : IsSimple (at 0 0 ++ at 6 3 ++ at 3 6)
inner_simple = record { long = omega arith; different = coords_apart (at 0 0 ++ at 6 3 ++ at 3 6) refl; noded = three_noded hole_third hole_second hole_first (meet-sym hole_second hole_third second_third) (meet-sym hole_first hole_third first_third) (meet-sym hole_first hole_second first_second) }

shell_simple : IsSimple shell
shell_simple = record { long = omega arith; different = coords_apart shell refl; noded = noded }

abbrev left_rising : Seg
left_rising = segment (grid 0 0) (grid 5 5) refl

abbrev left_falling : Seg
left_falling = segment (grid 0 10) (grid 5 5) refl

abbrev left_upright : Seg
left_upright = segment (grid 0 0) (grid 0 10) refl

abbrev right_falling : Seg
right_falling = segment (grid 5 5) (grid 10 0) refl

abbrev right_upright : Seg
right_upright = segment (grid 10 0) (grid 10 10) refl

abbrev right_rising : Seg
right_rising = segment (grid 5 5) (grid 10 10) refl

left_one : MeetInEnds left_rising left_falling
unfolding side
left_one = inr (λ r h. (let s = side_zero-on left_rising r h.0 in let t = side_zero-on left_falling r h.1 in (inr (omega (arith, ints), omega (arith, ints)), inr (omega (arith, ints), omega (arith, ints)))))

left_two : MeetInEnds left_rising left_upright
unfolding side
left_two = inr (λ r h. (let s = side_zero-on left_rising r h.0 in let t = side_zero-on left_upright r h.1 in (inl (omega (arith, ints), omega (arith, ints)), inl (omega (arith, ints), omega (arith, ints)))))

left_three : MeetInEnds left_falling left_upright
unfolding side
left_three = inr (λ r h. (let s = side_zero-on left_falling r h.0 in let t = side_zero-on left_upright r h.1 in (inl (omega (arith, ints), omega (arith, ints)), inr (omega (arith, ints), omega (arith, ints)))))

right_one : MeetInEnds right_falling right_upright
unfolding side
right_one = inr (λ r h. (let s = side_zero-on right_falling r h.0 in let t = side_zero-on right_upright r h.1 in (inr (omega (arith, ints), omega (arith, ints)), inl (omega (arith, ints), omega (arith, ints)))))

right_two : MeetInEnds right_falling right_rising
unfolding side
right_two = inr (λ r h. (let s = side_zero-on right_falling r h.0 in let t = side_zero-on right_rising r h.1 in (inl (omega (arith, ints), omega (arith, ints)), inl (omega (arith, ints), omega (arith, ints)))))

right_three : MeetInEnds right_upright right_rising
unfolding side
right_three = inr (λ r h. (let s = side_zero-on right_upright r h.0 in let t = side_zero-on right_rising r h.1 in (inr (omega (arith, ints), omega (arith, ints)), inr (omega (arith, ints), omega (arith, ints)))))

left_simple : IsSimple left_wing
left_simple = record { long = omega arith; different = coords_apart left_wing refl; noded = three_noded left_rising left_falling left_upright left_one left_two left_three }

right_simple : IsSimple right_wing
right_simple = record { long = omega arith; different = coords_apart right_wing refl; noded = three_noded right_falling right_upright right_rising right_one right_two right_three }

-- ---- polygons

abbrev IsFree : List (List Coord) → (Coord × Coord) × (Coord × Coord) → Type 0
IsFree rings corner = IsTrue (is_free_corner (flat_map sides rings) corner)

touching : IsSound notched (λ r. r == 1) (shell ∷ hole ∷ [])
unfolding sweep side turn_of
touching = record {
  round = ways_reordered (flat_map sides (shell ∷ hole ∷ [])) (boundary notched (λ r. r == 1)) refl;
  simple = All-from_recursion IsSimple (shell ∷ hole ∷ []) (shell_simple, (hole_simple, tt));
  shell_first = (refl, All-from_recursion IsHole (hole ∷ []) (refl, tt));
  free = All-from_recursion (IsFree (shell ∷ hole ∷ [])) (flat_map corners (shell ∷ hole ∷ [])) (refl, (refl, (refl, (refl, (refl, (refl, (refl, tt)))))));
}
  where
    IsHole : List Coord → Type 0
    IsHole ring = IsTrue (is_clockwise ring)

in_the_hole : IsSound notched (λ r. r == 3) ((at 0 0 ++ at 6 3 ++ at 3 6) ∷ [])
unfolding sweep side turn_of
in_the_hole = record {
  round = ways_reordered (flat_map sides ((at 0 0 ++ at 6 3 ++ at 3 6) ∷ [])) (boundary notched (λ r. r == 3)) refl;
  simple = All-from_recursion IsSimple ((at 0 0 ++ at 6 3 ++ at 3 6) ∷ []) (inner_simple, tt);
  shell_first = (refl, λ k d within. absurd (omega arith));
  free = All-from_recursion (IsFree ((at 0 0 ++ at 6 3 ++ at 3 6) ∷ [])) (flat_map corners ((at 0 0 ++ at 6 3 ++ at 3 6) ∷ [])) (refl, (refl, (refl, tt)));
}

left_sound : IsSound bow (λ r. r == 1) (left_wing ∷ [])
unfolding sweep side turn_of
left_sound = record {
  round = ways_reordered (flat_map sides (left_wing ∷ [])) (boundary bow (λ r. r == 1)) refl;
  simple = All-from_recursion IsSimple (left_wing ∷ []) (left_simple, tt);
  shell_first = (refl, λ k d within. absurd (omega arith));
  free = All-from_recursion (IsFree (left_wing ∷ [])) (flat_map corners (left_wing ∷ [])) (refl, (refl, (refl, tt)));
}

right_sound : IsSound bow (λ r. r == 6) (right_wing ∷ [])
unfolding sweep side turn_of
right_sound = record {
  round = ways_reordered (flat_map sides (right_wing ∷ [])) (boundary bow (λ r. r == 6)) refl;
  simple = All-from_recursion IsSimple (right_wing ∷ []) (right_simple, tt);
  shell_first = (refl, λ k d within. absurd (omega arith));
  free = All-from_recursion (IsFree (right_wing ∷ [])) (flat_map corners (right_wing ∷ [])) (refl, (refl, (refl, tt)));
}

-- the other wing has another side: none of its ways begins at (0, 0)
begins_elsewhere : (way : Coord × Coord) → Contains (flat_map sides (right_wing ∷ [])) way → ¬ (is_same_coord way.0 (grid 0 0) ≡ true)
begins_elsewhere way has begins =
    false≢true (sym (All-contains (λ w. is_same_coord w.0 (grid 0 0) ≡ false) (flat_map sides (right_wing ∷ [])) way (All-from_recursion (λ w. is_same_coord w.0 (grid 0 0) ≡ false) (flat_map sides (right_wing ∷ [])) (refl, (refl, (refl, tt)))) has) ∙ begins)

other_part : ¬ GoRoundPart bow (λ r. r == 1) (right_wing ∷ [])
other_part h =
    let way : Coord × Coord = (grid 0 0, grid 5 5) in
    let listed : Contains (boundary bow (λ r. r == 1)) way = (1, omega arith, refl) in
    begins_elsewhere way (Contains-permutation (boundary bow (λ r. r == 1)) (flat_map sides (right_wing ∷ [])) way (IsPermutation-sym (flat_map sides (right_wing ∷ [])) (boundary bow (λ r. r == 1)) h) listed) refl

not_simple : ¬ IsSimple crossed_wings
not_simple h = h.different 1 4 (grid 5 5) (omega arith) (omega arith) refl

pinched_not_sound : ¬ IsSound notched (λ r. r == 1) (pinched ∷ [])
pinched_not_sound h = (h.simple 0 pinched (omega arith)).different 0 3 (grid 0 0) (omega arith) (omega arith) refl

pub polygon_examples : PolygonExamples
polygon_examples = record {
  one_part = two_in_one;
  other_owner = not_in_one;
  touching = touching;
  in_the_hole = in_the_hole;
  left = left_sound;
  right = right_sound;
  other_part = other_part;
  not_simple = not_simple;
  not_sound = pinched_not_sound;
}
