-- The ways of the island, and the parity of the triangle.
use Rattle.std.proofs.Common.{◌≡◌, refl, sym, ◌∙◌, ◌+◌, ◌%◌, ◌^◌, cond, ℕ, true, false, true≢false, ℤ, pos, negsuc, ◌≤ℤ◌, ◌<ℤ◌, arith}
use Rattle.std.proofs.lemmas.List.Elements.{All-from_recursion, All-contains}
use Rattle.plane.specs.Point.{Point, at_coord}
use Rattle.plane.specs.Segment.{side}
use Rattle.plane.specs.Ray.{sweep, Rises}
use Rattle.plane.specs.Parity.{holds}
use Rattle.plane.specs.Joined.{IsClear}
use Rattle.plane.specs.Examples.{grid, square}
use Rattle.plane.proofs.Forms.{form}
use Rattle.crossing_laws.specs.Crossing.{IsSwept, HaveEvenEnds}
use Rattle.crossing_laws.specs.Examples.{west, north_west, triangle, IslandExample, TriangleExample, WindingExamples}
use Rattle.crossing_laws.proofs.Separated.{IsOnFarSide, separated}
use Rattle.crossing_laws.proofs.Sums.{holds-joined}

-- ---- the island: the way keeps to the left of it, above it and to the right of it

-- the corners of the square lie beyond a line
record AreCornersBeyond (a b c : ℤ) : Type 0 where
  south_west : pos 0 ≤ℤ form a b c (at_coord (grid 0 0))
  south_east : pos 0 ≤ℤ form a b c (at_coord (grid 10 0))
  north_west : pos 0 ≤ℤ form a b c (at_coord (grid 0 10))
  north_east : pos 0 ≤ℤ form a b c (at_coord (grid 10 10))

-- so a way on the other side of the line is clear
clear_of_square : (a b c : ℤ) (p q : Point) → AreCornersBeyond a b c → form a b c p <ℤ pos 0 → form a b c q <ℤ pos 0 → IsClear square p q
clear_of_square a b c p q h hp hq =
    separated a b c square p q hp hq (All-from_recursion (IsOnFarSide a b c) square (
      record { lo = h.south_west; hi = h.south_east },
      (record { lo = h.south_east; hi = h.north_east }, (record { lo = h.north_west; hi = h.north_east }, (record { lo = h.south_west; hi = h.north_west }, tt))),
    ))

pub round_island : IslandExample
unfolding form
round_island =
    let right_of : AreCornersBeyond (pos 1) (pos 0) (pos 0) =
    record { south_west = record { le = tt }; south_east = record { le = tt }; north_west = record { le = tt }; north_east = record { le = tt } } in
    let below : AreCornersBeyond (pos 0) (negsuc 0) (pos 10) =
    record { south_west = record { le = tt }; south_east = record { le = tt }; north_west = record { le = tt }; north_east = record { le = tt } } in
    let left_of : AreCornersBeyond (negsuc 0) (pos 0) (pos 10) =
    record { south_west = record { le = tt }; south_east = record { le = tt }; north_west = record { le = tt }; north_east = record { le = tt } } in (
      clear_of_square (pos 1) (pos 0) (pos 0) (at_coord west) (at_coord north_west) right_of (record { lt = tt }) (record { lt = tt }),
      (
        clear_of_square (pos 0) (negsuc 0) (pos 10) (at_coord north_west) (at_coord (grid 15 20)) below (record { lt = tt }) (record { lt = tt }),
        clear_of_square (negsuc 0) (pos 0) (pos 10) (at_coord (grid 15 20)) (at_coord (grid 15 5)) left_of (record { lt = tt }) (record { lt = tt }),
      ),
    )

-- ---- the triangle: it holds one of the points

triangle_swept : IsSwept triangle
unfolding sweep
triangle_swept = λ e i. All-contains Rises triangle e (All-from_recursion Rises triangle (record { lt = tt }, (record { lt = tt }, (record { lt = tt }, tt)))) i

each_twice : (a b c : ℕ) → (0 + (a + b) + (a + c) + (c + b)) % 2 ≡ 0
each_twice a b c = omega arith

triangle_even : HaveEvenEnds triangle
triangle_even = λ inside. each_twice (cond (inside (grid 0 0)) 1 0) (cond (inside (grid 10 0)) 1 0) (cond (inside (grid 0 10)) 1 0)

inside_held : holds triangle (at_coord (grid 2 2)) ≡ true
unfolding sweep side
inside_held = refl

outside_free : holds triangle (at_coord (grid (2 ^ 30) 0)) ≡ false
unfolding sweep side
outside_free = refl

pub triangle_apart : TriangleExample
triangle_apart = λ j.
    true≢false (sym inside_held ∙ holds-joined triangle triangle_swept triangle_even (at_coord (grid 2 2)) (at_coord (grid (2 ^ 30) 0)) j ∙ outside_free)

-- ---- winding, by computation

pub winding_examples : WindingExamples
unfolding sweep side
winding_examples = record { once = refl; clockwise = refl; twice = refl; outside = refl }
