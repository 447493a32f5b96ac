-- The rectangle that two overlapping squares both hold: its polygon is sound.
use mathlib.Core.List.{[], ◌∷◌}
use Rattle.std.proofs.Common.{inl, inr, refl, sym, ◌==◌, IsTrue, arith}
use Rattle.std.specs.Prelude.{flat_map}
use Rattle.std.proofs.lemmas.Int.{ints}
use Rattle.std.proofs.lemmas.List.Elements.{All-from_recursion}
use Rattle.cov_types.specs.declared.coord.Coord.{Coord}
use Rattle.cov_types.specs.declared.seg.Seg.{Seg}
use Rattle.cov_types.specs.Uses.{sides}
use Rattle.plane.specs.Examples.{grid, segment}
use Rattle.plane.specs.Noded.{MeetInEnds, IsNodedFully}
use Rattle.plane.specs.Ray.{sweep}
use Rattle.plane.specs.Segment.{side, turn_of}
use Rattle.plane.proofs.Sides.{side_zero-on}
use Rattle.arrangement.specs.Examples.{overlap}
use Rattle.arrangement.proofs.Short.{both_in, coords_apart}
use Rattle.sound_polygons.specs.Parts.{IsSimple, IsSound, ring_edges, boundary, corners, is_free_corner}
use Rattle.sound_polygons.proofs.Ways.{ways_reordered}
use Rattle.overlaid_laws.specs.Examples.{middle}

-- ---- its sides meet in ends alone

abbrev pub west : Seg
west = segment (grid 5 0) (grid 5 10) refl

abbrev pub south : Seg
south = segment (grid 5 0) (grid 10 0) refl

abbrev pub north : Seg
north = segment (grid 5 10) (grid 10 10) refl

abbrev pub east : Seg
east = segment (grid 10 0) (grid 10 10) refl

west_south : MeetInEnds west south
unfolding side
west_south = inr (λ r h. (let s = side_zero-on west r h.0 in let t = side_zero-on south r h.1 in (inl (omega (arith, ints), omega (arith, ints)), inl (omega (arith, ints), omega (arith, ints)))))

west_north : MeetInEnds west north
unfolding side
west_north = inr (λ r h. (let s = side_zero-on west r h.0 in let t = side_zero-on north r h.1 in (inr (omega (arith, ints), omega (arith, ints)), inl (omega (arith, ints), omega (arith, ints)))))

south_east : MeetInEnds south east
unfolding side
south_east = inr (λ r h. (let s = side_zero-on south r h.0 in let t = side_zero-on east r h.1 in (inr (omega (arith, ints), omega (arith, ints)), inl (omega (arith, ints), omega (arith, ints)))))

north_east : MeetInEnds north east
unfolding side
north_east = inr (λ r h. (let s = side_zero-on north r h.0 in let t = side_zero-on east r h.1 in (inr (omega (arith, ints), omega (arith, ints)), inr (omega (arith, ints), omega (arith, ints)))))

west_east : MeetInEnds west east
unfolding side
west_east = inr (λ r h. (let s = side_zero-on west r h.0 in let t = side_zero-on east r h.1 in let d = r.positive in absurd (omega (arith, ints))))

south_north : MeetInEnds south north
unfolding side
south_north = inr (λ r h. (let s = side_zero-on south r h.0 in let t = side_zero-on north r h.1 in let d = r.positive in absurd (omega (arith, ints))))

meet-sym : (s t : Seg) → MeetInEnds s t → MeetInEnds t s
meet-sym s t (inl same) = inl (sym same)
meet-sym s t (inr ends) = inr (λ r h. (let both = ends r (h.1, h.0) in (both.1, both.0)))

-- the sides in the order of the ring: south, east, north, west
middle_noded : IsNodedFully (ring_edges middle)
middle_noded e f has_e has_f = both_in MeetInEnds (ring_edges middle) e f (
  (inl refl, (south_east, (south_north, (meet-sym west south west_south, tt)))),
  (
    (meet-sym south east south_east, (inl refl, (meet-sym north east north_east, (meet-sym west east west_east, tt)))),
    (
      (meet-sym south north south_north, (north_east, (inl refl, (meet-sym west north west_north, tt)))),
      ((west_south, (west_east, (west_north, (inl refl, tt)))), tt),
    ),
  ),
) has_e has_f

-- ---- its polygon

pub middle_sound : IsSound overlap (λ r. r == 7) (middle ∷ [])
unfolding sweep side turn_of
middle_sound = record {
  round = ways_reordered (flat_map sides (middle ∷ [])) (boundary overlap (λ r. r == 7)) refl;
  simple = All-from_recursion IsSimple (middle ∷ []) (record { long = omega arith; different = coords_apart middle refl; noded = middle_noded }, tt);
  shell_first = (refl, λ k d within. absurd (omega arith));
  free = All-from_recursion IsFree (flat_map corners (middle ∷ [])) (refl, (refl, (refl, (refl, tt))));
}
  where
    IsFree : (Coord × Coord) × (Coord × Coord) → Type 0
    IsFree corner = IsTrue (is_free_corner (flat_map sides (middle ∷ [])) corner)
