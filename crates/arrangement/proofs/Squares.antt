-- The square of size 10: its edges meet in ends alone, and which points are joined.
use mathlib.Core.List.{[], ◌∷◌}
use Rattle.std.proofs.Common.{◌≡◌, inl, inr, refl, sym, ◌∙◌, ◌+◌, ◌%◌, cond, ℕ, true, false, true≢false, ℤ, pos, negsuc, ◌*ℤ◌, ◌≤ℤ◌, ◌<ℤ◌, arith}
use Rattle.std.proofs.lemmas.Int.{ints}
use Rattle.std.proofs.lemmas.List.Elements.{All-from_recursion, All-contains}
use Rattle.cov_types.specs.declared.seg.Seg.{Seg}
use Rattle.plane.specs.Examples.{grid, left, bottom, top, right}
use Rattle.plane.specs.Joined.{IsClear, Joined}
use Rattle.plane.specs.Noded.{MeetInEnds, IsNodedFully}
use Rattle.plane.specs.Parity.{holds}
use Rattle.plane.specs.Point.{Point, at_coord, IsBetween}
use Rattle.plane.specs.Ray.{sweep, Rises}
use Rattle.plane.specs.Segment.{IsOn, side, upper, lower}
use Rattle.plane.proofs.Forms.{form}
use Rattle.plane.proofs.Sides.{side_zero-on}
use Rattle.crossing_laws.specs.Crossing.{IsSwept, HaveEvenEnds}
use Rattle.crossing_laws.proofs.Lists.{contains_here}
use Rattle.crossing_laws.proofs.Separated.{IsOnFarSide, separated}
use Rattle.crossing_laws.proofs.Sums.{holds-joined}
use Rattle.crossing_laws.proofs.Ways.{joined-trans, joined_by_clear}
use Rattle.arrangement.specs.Square.{square_edges}
use Rattle.arrangement.proofs.Short.{both_in}

-- ---- the edges meet in ends alone

left_bottom : MeetInEnds left bottom
unfolding side
left_bottom = inr (λ r h. (let s = side_zero-on left r h.0 in let t = side_zero-on bottom r h.1 in (inl (omega (arith, ints), omega (arith, ints)), inl (omega (arith, ints), omega (arith, ints)))))

left_top : MeetInEnds left top
unfolding side
left_top = inr (λ r h. (let s = side_zero-on left r h.0 in let t = side_zero-on top r h.1 in (inr (omega (arith, ints), omega (arith, ints)), inl (omega (arith, ints), omega (arith, ints)))))

bottom_right : MeetInEnds bottom right
unfolding side
bottom_right = inr (λ r h. (let s = side_zero-on bottom r h.0 in let t = side_zero-on right r h.1 in (inr (omega (arith, ints), omega (arith, ints)), inl (omega (arith, ints), omega (arith, ints)))))

top_right : MeetInEnds top right
unfolding side
top_right = inr (λ r h. (let s = side_zero-on top r h.0 in let t = side_zero-on right r h.1 in (inr (omega (arith, ints), omega (arith, ints)), inr (omega (arith, ints), omega (arith, ints)))))

left_right : MeetInEnds left right
unfolding side
left_right = inr (λ r h. (let s = side_zero-on left r h.0 in let t = side_zero-on right r h.1 in let d = r.positive in absurd (omega (arith, ints))))

bottom_top : MeetInEnds bottom top
unfolding side
bottom_top = inr (λ r h. (let s = side_zero-on bottom r h.0 in let t = side_zero-on top r h.1 in let d = r.positive in absurd (omega (arith, ints))))

meet-sym : (s t : Seg) → MeetInEnds s t → MeetInEnds t s
meet-sym s t (inl same) = inl (sym same)
meet-sym s t (inr ends) = inr (λ r h. (let both = ends r (h.1, h.0) in (both.1, both.0)))

pub square_noded : IsNodedFully square_edges
square_noded e f has_e has_f = both_in MeetInEnds square_edges e f (
  (inl refl, (left_bottom, (left_top, (left_right, tt)))),
  (
    (meet-sym left bottom left_bottom, (inl refl, (bottom_top, (bottom_right, tt)))),
    (
      (meet-sym left top left_top, (meet-sym bottom top bottom_top, (inl refl, (top_right, tt)))),
      ((meet-sym left right left_right, (meet-sym bottom right bottom_right, (meet-sym top right top_right, (inl refl, tt)))), tt),
    ),
  ),
) has_e has_f

-- ---- points outside: beyond one of the four sides

-- all edges are beyond a line
record AreBeyond (a b c : ℤ) : Type 0 where
  south_west : pos 0 ≤ℤ form a b c (at_coord (grid 0 0))
  south_east : pos 0 ≤ℤ form a b c (at_coord (grid 10 0))
  north_west : pos 0 ≤ℤ form a b c (at_coord (grid 0 10))
  north_east : pos 0 ≤ℤ form a b c (at_coord (grid 10 10))

clear_outside : (a b c : ℤ) (p q : Point) → AreBeyond a b c → form a b c p <ℤ pos 0 → form a b c q <ℤ pos 0 → IsClear square_edges p q
clear_outside a b c p q h hp hq =
    separated a b c square_edges p q hp hq (All-from_recursion (IsOnFarSide a b c) square_edges (
      record { lo = h.south_west; hi = h.north_west },
      (record { lo = h.south_west; hi = h.south_east }, (record { lo = h.north_west; hi = h.north_east }, (record { lo = h.south_east; hi = h.north_east }, tt))),
    ))

abbrev pub IsWest : Point → Type 0
IsWest p = p.x <ℤ pos 0

abbrev pub IsSouth : Point → Type 0
IsSouth p = p.y <ℤ pos 0

abbrev pub IsEast : Point → Type 0
IsEast p = (pos 10 *ℤ pos p.d) <ℤ p.x

abbrev pub IsNorth : Point → Type 0
IsNorth p = (pos 10 *ℤ pos p.d) <ℤ p.y

clear_west : (p q : Point) → IsWest p → IsWest q → IsClear square_edges p q
unfolding form
clear_west p q hp hq = clear_outside (pos 1) (pos 0) (pos 0) p q (record { south_west = record { le = tt }; south_east = record { le = tt }; north_west = record { le = tt }; north_east = record { le = tt } }) (omega (arith, ints)) (omega (arith, ints))

clear_south : (p q : Point) → IsSouth p → IsSouth q → IsClear square_edges p q
unfolding form
clear_south p q hp hq = clear_outside (pos 0) (pos 1) (pos 0) p q (record { south_west = record { le = tt }; south_east = record { le = tt }; north_west = record { le = tt }; north_east = record { le = tt } }) (omega (arith, ints)) (omega (arith, ints))

clear_east : (p q : Point) → IsEast p → IsEast q → IsClear square_edges p q
unfolding form
clear_east p q hp hq = clear_outside (negsuc 0) (pos 0) (pos 10) p q (record { south_west = record { le = tt }; south_east = record { le = tt }; north_west = record { le = tt }; north_east = record { le = tt } }) (omega (arith, ints)) (omega (arith, ints))

clear_north : (p q : Point) → IsNorth p → IsNorth q → IsClear square_edges p q
unfolding form
clear_north p q hp hq = clear_outside (pos 0) (negsuc 0) (pos 10) p q (record { south_west = record { le = tt }; south_east = record { le = tt }; north_west = record { le = tt }; north_east = record { le = tt } }) (omega (arith, ints)) (omega (arith, ints))

-- the point (-1, -1), and one beyond each of the next corners
abbrev pub corner : Point
corner = at_coord (record { x = negsuc 0; y = negsuc 0 })

abbrev next_corner : Point
next_corner = at_coord (record { x = pos 11; y = negsuc 0 })

abbrev last_corner : Point
last_corner = at_coord (record { x = negsuc 0; y = pos 11 })

step : (p q : Point) → IsClear square_edges p q → Joined square_edges p q
step p q h = joined_by_clear square_edges p q h

pub west_joined : (p : Point) → IsWest p → Joined square_edges p corner
west_joined p h = step p corner (clear_west p corner h (record { lt = tt }))

pub south_joined : (p : Point) → IsSouth p → Joined square_edges p corner
south_joined p h = step p corner (clear_south p corner h (record { lt = tt }))

pub east_joined : (p : Point) → IsEast p → Joined square_edges p corner
east_joined p h = joined-trans square_edges p next_corner corner (step p next_corner (clear_east p next_corner h (record { lt = tt }))) (step next_corner corner (clear_south next_corner corner (record { lt = tt }) (record { lt = tt })))

pub north_joined : (p : Point) → IsNorth p → Joined square_edges p corner
north_joined p h = joined-trans square_edges p last_corner corner (step p last_corner (clear_north p last_corner h (record { lt = tt }))) (step last_corner corner (clear_west last_corner corner (record { lt = tt }) (record { lt = tt })))

-- ---- points inside

pub record IsInside (p : Point) : Type 0 where
  pub right_of : pos 0 <ℤ p.x
  pub left_of : p.x <ℤ (pos 10 *ℤ pos p.d)
  pub above : pos 0 <ℤ p.y
  pub below : p.y <ℤ (pos 10 *ℤ pos p.d)

-- an edge beyond a line is not on the way
past_edge : (a b c : ℤ) (e : Seg) (p q : Point) → IsOnFarSide a b c e → form a b c p <ℤ pos 0 → form a b c q <ℤ pos 0 → (r : Point) → IsBetween r p q → IsOn e r → ⊥
past_edge a b c e p q far hp hq = separated a b c (e ∷ []) p q hp hq (All-from_recursion (IsOnFarSide a b c) (e ∷ []) (far, tt)) e (contains_here e [])

abbrev Misses : Point → Point → Seg → Type 0
Misses p q e = (r : Point) → IsBetween r p q → IsOn e r → ⊥

pub inside_joined : (p q : Point) → IsInside p → IsInside q → Joined square_edges p q
unfolding form
inside_joined p q hp hq = step p q (λ e has. All-contains (Misses p q) square_edges e (All-from_recursion (Misses p q) square_edges (
  past_edge (negsuc 0) (pos 0) (pos 0) left p q (record { lo = record { le = tt }; hi = record { le = tt } }) (let a = hp.right_of in omega (arith, ints)) (let a = hq.right_of in omega (arith, ints)),
  (
    past_edge (pos 0) (negsuc 0) (pos 0) bottom p q (record { lo = record { le = tt }; hi = record { le = tt } }) (let a = hp.above in omega (arith, ints)) (let a = hq.above in omega (arith, ints)),
    (
      past_edge (pos 0) (pos 1) (negsuc 9) top p q (record { lo = record { le = tt }; hi = record { le = tt } }) (let a = hp.below in omega (arith, ints)) (let a = hq.below in omega (arith, ints)),
      (past_edge (pos 1) (pos 0) (negsuc 9) right p q (record { lo = record { le = tt }; hi = record { le = tt } }) (let a = hp.left_of in omega (arith, ints)) (let a = hq.left_of in omega (arith, ints)), tt),
    ),
  ),
)) has)

-- ---- inside and outside are apart

square_swept : IsSwept square_edges
unfolding sweep
square_swept = λ e i. All-contains Rises square_edges e (All-from_recursion Rises square_edges (record { lt = tt }, (record { lt = tt }, (record { lt = tt }, (record { lt = tt }, tt))))) i

each_twice : (a b c d : ℕ) → (0 + (a + b) + (a + c) + (b + d) + (c + d)) % 2 ≡ 0
each_twice a b c d = omega arith

square_even : HaveEvenEnds square_edges
square_even = λ inside. each_twice (cond (inside (grid 0 0)) 1 0) (cond (inside (grid 0 10)) 1 0) (cond (inside (grid 10 0)) 1 0) (cond (inside (grid 10 10)) 1 0)

held : holds square_edges (lower left) ≡ true
unfolding sweep side
held = refl

not_held : holds square_edges (upper left) ≡ false
unfolding sweep side
not_held = refl

pub sides_apart : ¬ Joined square_edges (lower left) (upper left)
sides_apart j = true≢false (sym held ∙ holds-joined square_edges square_swept square_even (lower left) (upper left) j ∙ not_held)
