-- The frame with a hole: its regions, its overlay, and the owner of the hole.
use mathlib.Core.List.{[], ◌∷◌}
use Rattle.std.proofs.Common.{◌≡◌, inl, refl, sym, ◌∙◌, ap, subst, slice_index, ℕ, zero, suc, ◌+◌, ◌<◌, ◌≤◌, ◌%◌, ◌==◌, ◌&&◌, true≢false, cond, List, length, IsTrue, pos, negsuc, arith}
use Rattle.std.specs.Prelude.{Contains, Some, slice_get, unwrap_or}
use Rattle.std.proofs.lemmas.Bool.{and_parts}
use Rattle.std.proofs.lemmas.Bool.Decides.{Decides-eqb}
use Rattle.std.proofs.lemmas.List.Elements.{All-from_recursion, All-contains}
use Rattle.std.proofs.lemmas.Option.{none-some, slice_get_within}
use Rattle.cov_types.specs.declared.edge_use.EdgeUse.{EdgeUse}
use Rattle.cov_types.specs.declared.seg.Seg.{Seg}
use Rattle.cov_types.specs.Seg.{is_seg_before}
use Rattle.cov_types.specs.Uses.{poly_uses}
use Rattle.plane.specs.Examples.{grid, left, bottom, top, right}
use Rattle.plane.specs.Joined.{Joined}
use Rattle.plane.specs.Length.{root, edge_length}
use Rattle.plane.specs.Parity.{holds}
use Rattle.plane.specs.Point.{Point, at_coord}
use Rattle.plane.specs.Ray.{sweep, Rises}
use Rattle.plane.specs.Region.{IsSide, IsJoinedSide, IsRegionOf, AreRegions, IsOuterRegion, far_point}
use Rattle.plane.specs.Segment.{side, upper, lower}
use Rattle.crossing_laws.specs.Across.{is_same_seg}
use Rattle.crossing_laws.specs.Crossing.{IsSwept, HaveEvenEnds}
use Rattle.crossing_laws.proofs.Sums.{holds-joined}
use Rattle.crossing_laws.proofs.Ways.{joined-sym, joined-trans, joined-fewer}
use Rattle.arrangement.specs.declared.odd_use.OddUse.{OddUse}
use Rattle.arrangement.specs.Examples.{pairs}
use Rattle.arrangement.specs.Measure.{trapezoid}
use Rattle.arrangement.specs.Noding.{segments, IsOdd, is_odd_before, AreLiveEdges}
use Rattle.arrangement.specs.Overlay.{IsOverlayOf}
use Rattle.arrangement.specs.Square.{square_edges}
use Rattle.arrangement.proofs.OddUses.{odd_used, some_passes}
use Rattle.arrangement.proofs.Short.{AllPairs-from_recursion, segs_in}
use Rattle.region_owners.specs.Frame.{frame_rings, west, south, north, east, frame_edges, frame_numbers, frame, FrameExamples}
use Rattle.region_owners.specs.Gap.{IsGap, IsNarrow}
use Rattle.region_owners.specs.Owner.{IsNarrowGap, IsOwner}
use Rattle.region_owners.specs.Square.{by_index}
use Rattle.region_owners.proofs.Boxes.{Box, IsInBox, box_joined}
use Rattle.region_owners.proofs.SquareClearance.{at_most_ten}

abbrev Linked : Point → Point → Type 0
Linked p q = Joined frame_edges p q

-- ---- outside

abbrev far_west : Box
far_west = record { left = negsuc 4294967295; right = negsuc 9; bottom = negsuc 4294967295; top = pos 4294967296 }

abbrev far_south : Box
far_south = record { left = negsuc 4294967295; right = pos 4294967296; bottom = negsuc 4294967295; top = negsuc 9 }

abbrev far_east : Box
far_east = record { left = pos 20; right = pos 4294967296; bottom = negsuc 4294967295; top = pos 4294967296 }

abbrev far_north : Box
far_north = record { left = negsuc 4294967295; right = pos 4294967296; bottom = pos 20; top = pos 4294967296 }

abbrev corner : Point
corner = at_coord (record { x = negsuc 14; y = negsuc 14 })

abbrev east_corner : Point
east_corner = at_coord (record { x = pos 25; y = negsuc 14 })

abbrev north_corner : Point
north_corner = at_coord (record { x = negsuc 14; y = pos 25 })

from_west : (p : Point) → IsInBox far_west p → Linked p corner
from_west p h = box_joined frame_edges far_west refl p corner h (record { right_of = record { lt = tt }; left_of = record { lt = tt }; above = record { lt = tt }; below = record { lt = tt } })

from_south : (p : Point) → IsInBox far_south p → Linked p corner
from_south p h = box_joined frame_edges far_south refl p corner h (record { right_of = record { lt = tt }; left_of = record { lt = tt }; above = record { lt = tt }; below = record { lt = tt } })

from_east : (p : Point) → IsInBox far_east p → Linked p corner
from_east p h = joined-trans frame_edges p east_corner corner
    (box_joined frame_edges far_east refl p east_corner h (record { right_of = record { lt = tt }; left_of = record { lt = tt }; above = record { lt = tt }; below = record { lt = tt } }))
    (from_south east_corner (record { right_of = record { lt = tt }; left_of = record { lt = tt }; above = record { lt = tt }; below = record { lt = tt } }))

from_north : (p : Point) → IsInBox far_north p → Linked p corner
from_north p h = joined-trans frame_edges p north_corner corner
    (box_joined frame_edges far_north refl p north_corner h (record { right_of = record { lt = tt }; left_of = record { lt = tt }; above = record { lt = tt }; below = record { lt = tt } }))
    (from_west north_corner (record { right_of = record { lt = tt }; left_of = record { lt = tt }; above = record { lt = tt }; below = record { lt = tt } }))

-- ---- in the frame

abbrev strip_west : Box
strip_west = record { left = negsuc 9; right = pos 0; bottom = negsuc 9; top = pos 20 }

abbrev strip_south : Box
strip_south = record { left = negsuc 9; right = pos 20; bottom = negsuc 9; top = pos 0 }

abbrev strip_east : Box
strip_east = record { left = pos 10; right = pos 20; bottom = negsuc 9; top = pos 20 }

abbrev strip_north : Box
strip_north = record { left = negsuc 9; right = pos 20; bottom = pos 10; top = pos 20 }

abbrev inner_corner : Point
inner_corner = at_coord (record { x = negsuc 4; y = negsuc 4 })

abbrev inner_east : Point
inner_east = at_coord (record { x = pos 15; y = negsuc 4 })

abbrev inner_north : Point
inner_north = at_coord (record { x = negsuc 4; y = pos 15 })

in_west : (p : Point) → IsInBox strip_west p → Linked p inner_corner
in_west p h = box_joined frame_edges strip_west refl p inner_corner h (record { right_of = record { lt = tt }; left_of = record { lt = tt }; above = record { lt = tt }; below = record { lt = tt } })

in_south : (p : Point) → IsInBox strip_south p → Linked p inner_corner
in_south p h = box_joined frame_edges strip_south refl p inner_corner h (record { right_of = record { lt = tt }; left_of = record { lt = tt }; above = record { lt = tt }; below = record { lt = tt } })

in_east : (p : Point) → IsInBox strip_east p → Linked p inner_corner
in_east p h = joined-trans frame_edges p inner_east inner_corner
    (box_joined frame_edges strip_east refl p inner_east h (record { right_of = record { lt = tt }; left_of = record { lt = tt }; above = record { lt = tt }; below = record { lt = tt } }))
    (in_south inner_east (record { right_of = record { lt = tt }; left_of = record { lt = tt }; above = record { lt = tt }; below = record { lt = tt } }))

in_north : (p : Point) → IsInBox strip_north p → Linked p inner_corner
in_north p h = joined-trans frame_edges p inner_north inner_corner
    (box_joined frame_edges strip_north refl p inner_north h (record { right_of = record { lt = tt }; left_of = record { lt = tt }; above = record { lt = tt }; below = record { lt = tt } }))
    (in_west inner_north (record { right_of = record { lt = tt }; left_of = record { lt = tt }; above = record { lt = tt }; below = record { lt = tt } }))

-- ---- in the hole

abbrev hole_box : Box
hole_box = record { left = pos 0; right = pos 10; bottom = pos 0; top = pos 10 }

in_hole : (p : Point) → IsInBox hole_box p → Linked p (lower left)
in_hole p h = box_joined frame_edges hole_box refl p (lower left) h (record { right_of = record { lt = tt }; left_of = record { lt = tt }; above = record { lt = tt }; below = record { lt = tt } })

-- ---- the three are apart

abbrev outer_edges : List Seg
outer_edges = west ∷ south ∷ north ∷ east ∷ []

four_times : (a b c d : ℕ) → (0 + (a + b) + (a + c) + (b + d) + (c + d)) % 2 ≡ 0
four_times a b c d = omega arith

outer_swept : IsSwept outer_edges
unfolding sweep
outer_swept = λ e i. All-contains Rises outer_edges e (All-from_recursion Rises outer_edges (record { lt = tt }, (record { lt = tt }, (record { lt = tt }, (record { lt = tt }, tt))))) i

outer_even : HaveEvenEnds outer_edges
outer_even = λ inside. four_times (cond (inside west.lo) 1 0) (cond (inside west.hi) 1 0) (cond (inside south.hi) 1 0) (cond (inside north.hi) 1 0)

square_swept : IsSwept square_edges
unfolding sweep
square_swept = λ e i. All-contains Rises square_edges e (All-from_recursion Rises square_edges (record { lt = tt }, (record { lt = tt }, (record { lt = tt }, (record { lt = tt }, tt))))) i

square_even : HaveEvenEnds square_edges
square_even = λ inside. four_times (cond (inside (grid 0 0)) 1 0) (cond (inside (grid 0 10)) 1 0) (cond (inside (grid 10 0)) 1 0) (cond (inside (grid 10 10)) 1 0)

-- joined points are held alike by the outer edges, and by those of the hole
by_outer : (p q : Point) → Linked p q → holds outer_edges p ≡ holds outer_edges q
by_outer p q j = holds-joined outer_edges outer_swept outer_even p q (joined-fewer frame_edges outer_edges (segs_in outer_edges frame_edges refl) p q j)

by_square : (p q : Point) → Linked p q → holds square_edges p ≡ holds square_edges q
by_square p q j = holds-joined square_edges square_swept square_even p q (joined-fewer frame_edges square_edges (segs_in square_edges frame_edges refl) p q j)

not_frame_outside : ¬ Linked inner_corner corner
unfolding sweep side
not_frame_outside j = true≢false (by_outer inner_corner corner j)

not_hole_outside : ¬ Linked (lower left) corner
unfolding sweep side
not_hole_outside j = true≢false (by_square (lower left) corner j)

not_hole_frame : ¬ Linked (lower left) inner_corner
unfolding sweep side
not_hole_frame j = true≢false (by_square (lower left) inner_corner j)

-- ---- regions

-- the point at the side is this one
side_is : (n : ℕ) (p q : Point) → Some p ≡ Some q → p ≡ q
side_is n p q h = ap (λ o. unwrap_or o p) h

west_upper : Linked (upper west) corner
west_upper = from_west (upper west) (record { right_of = record { lt = tt }; left_of = record { lt = tt }; above = record { lt = tt }; below = record { lt = tt } })

west_lower : Linked (lower west) inner_corner
west_lower = in_west (lower west) (record { right_of = record { lt = tt }; left_of = record { lt = tt }; above = record { lt = tt }; below = record { lt = tt } })

south_upper : Linked (upper south) inner_corner
south_upper = in_south (upper south) (record { right_of = record { lt = tt }; left_of = record { lt = tt }; above = record { lt = tt }; below = record { lt = tt } })

south_lower : Linked (lower south) corner
south_lower = from_south (lower south) (record { right_of = record { lt = tt }; left_of = record { lt = tt }; above = record { lt = tt }; below = record { lt = tt } })

north_upper : Linked (upper north) corner
north_upper = from_north (upper north) (record { right_of = record { lt = tt }; left_of = record { lt = tt }; above = record { lt = tt }; below = record { lt = tt } })

north_lower : Linked (lower north) inner_corner
north_lower = in_north (lower north) (record { right_of = record { lt = tt }; left_of = record { lt = tt }; above = record { lt = tt }; below = record { lt = tt } })

left_upper : Linked (upper left) inner_corner
left_upper = in_west (upper left) (record { right_of = record { lt = tt }; left_of = record { lt = tt }; above = record { lt = tt }; below = record { lt = tt } })

-- a point of each region
outside_region : (p : Point) → Linked p corner → IsRegionOf frame_edges p 0
outside_region p j = record {
  joined = record { at = upper west; side = refl; joined = joined-trans frame_edges p corner (upper west) j (joined-sym frame_edges (upper west) corner west_upper) };
  least = λ n h. omega arith;
}

-- what is joined with the side n is what its side point is joined with
with_side : (p q at : Point) → q ≡ at → Linked p at → (r : Point) → Linked q r → Linked p r
with_side p q at is j r k = joined-trans frame_edges p at r j (subst (λ x. Linked x r) is k)

frame_least : (p : Point) → Linked p inner_corner → (n : ℕ) → IsJoinedSide frame_edges p n → 1 ≤ n
frame_least p inside zero h =
    absurd (not_frame_outside (joined-trans frame_edges inner_corner p corner (joined-sym frame_edges p inner_corner inside) (with_side p (upper west) h.at (side_is 0 (upper west) h.at h.side) h.joined corner west_upper)))
frame_least p inside (suc n) h = omega arith

frame_region : (p : Point) → Linked p inner_corner → IsRegionOf frame_edges p 1
frame_region p j = record {
  joined = record { at = lower west; side = refl; joined = joined-trans frame_edges p inner_corner (lower west) j (joined-sym frame_edges (lower west) inner_corner west_lower) };
  least = frame_least p j;
}

hole_least : (p : Point) → Linked p (lower left) → (n : ℕ) → IsJoinedSide frame_edges p n → 7 ≤ n
hole_least p inside n h = by n h.at h.side h.joined
  where
    back : Linked (lower left) p
    back = joined-sym frame_edges p (lower left) inside

    out : (q at : Point) → q ≡ at → Linked p at → Linked q corner → ⊥
    out q at is j k = not_hole_outside (joined-trans frame_edges (lower left) p corner back (with_side p q at is j corner k))

    beside : (q at : Point) → q ≡ at → Linked p at → Linked q inner_corner → ⊥
    beside q at is j k = not_hole_frame (joined-trans frame_edges (lower left) p inner_corner back (with_side p q at is j inner_corner k))

    by : (n : ℕ) (at : Point) → IsSide frame_edges n at → Linked p at → 7 ≤ n
    by zero at is j = absurd (out (upper west) at (side_is 0 (upper west) at is) j west_upper)
    by (suc zero) at is j = absurd (beside (lower west) at (side_is 1 (lower west) at is) j west_lower)
    by (suc (suc zero)) at is j = absurd (beside (upper south) at (side_is 2 (upper south) at is) j south_upper)
    by (suc (suc (suc zero))) at is j = absurd (out (lower south) at (side_is 3 (lower south) at is) j south_lower)
    by (suc (suc (suc (suc zero)))) at is j = absurd (out (upper north) at (side_is 4 (upper north) at is) j north_upper)
    by (suc (suc (suc (suc (suc zero))))) at is j = absurd (beside (lower north) at (side_is 5 (lower north) at is) j north_lower)
    by (suc (suc (suc (suc (suc (suc zero)))))) at is j = absurd (beside (upper left) at (side_is 6 (upper left) at is) j left_upper)
    by (suc (suc (suc (suc (suc (suc (suc n))))))) at is j = omega arith

hole_region : (p : Point) → Linked p (lower left) → IsRegionOf frame_edges p 7
hole_region p j = record { joined = record { at = lower left; side = refl; joined = j }; least = hole_least p j }

here : (n : ℕ) (p q : Point) (r : ℕ) → Some p ≡ Some q → IsRegionOf frame_edges p r → IsRegionOf frame_edges q r
here n p q r h region = subst (λ at. IsRegionOf frame_edges at r) (side_is n p q h) region

side_regions : (n : ℕ) (p : Point) → IsSide frame_edges n p → IsRegionOf frame_edges p (slice_index frame_numbers n)
side_regions zero p h = here 0 (upper west) p 0 h (outside_region (upper west) west_upper)
side_regions (suc zero) p h = here 1 (lower west) p 1 h (frame_region (lower west) west_lower)
side_regions (suc (suc zero)) p h = here 2 (upper south) p 1 h (frame_region (upper south) south_upper)
side_regions (suc (suc (suc zero))) p h = here 3 (lower south) p 0 h (outside_region (lower south) south_lower)
side_regions (suc (suc (suc (suc zero)))) p h = here 4 (upper north) p 0 h (outside_region (upper north) north_upper)
side_regions (suc (suc (suc (suc (suc zero))))) p h = here 5 (lower north) p 1 h (frame_region (lower north) north_lower)
side_regions (suc (suc (suc (suc (suc (suc zero)))))) p h = here 6 (upper left) p 1 h (frame_region (upper left) left_upper)
side_regions (suc (suc (suc (suc (suc (suc (suc zero))))))) p h = here 7 (lower left) p 7 h (hole_region (lower left) (in_hole (lower left) (record { right_of = record { lt = tt }; left_of = record { lt = tt }; above = record { lt = tt }; below = record { lt = tt } })))
side_regions (suc (suc (suc (suc (suc (suc (suc (suc zero)))))))) p h = here 8 (upper bottom) p 7 h (hole_region (upper bottom) (in_hole (upper bottom) (record { right_of = record { lt = tt }; left_of = record { lt = tt }; above = record { lt = tt }; below = record { lt = tt } })))
side_regions (suc (suc (suc (suc (suc (suc (suc (suc (suc zero))))))))) p h = here 9 (lower bottom) p 1 h (frame_region (lower bottom) (in_south (lower bottom) (record { right_of = record { lt = tt }; left_of = record { lt = tt }; above = record { lt = tt }; below = record { lt = tt } })))
side_regions (suc (suc (suc (suc (suc (suc (suc (suc (suc (suc zero)))))))))) p h = here 10 (upper top) p 1 h (frame_region (upper top) (in_north (upper top) (record { right_of = record { lt = tt }; left_of = record { lt = tt }; above = record { lt = tt }; below = record { lt = tt } })))
side_regions (suc (suc (suc (suc (suc (suc (suc (suc (suc (suc (suc zero))))))))))) p h = here 11 (lower top) p 7 h (hole_region (lower top) (in_hole (lower top) (record { right_of = record { lt = tt }; left_of = record { lt = tt }; above = record { lt = tt }; below = record { lt = tt } })))
side_regions (suc (suc (suc (suc (suc (suc (suc (suc (suc (suc (suc (suc zero)))))))))))) p h = here 12 (upper right) p 7 h (hole_region (upper right) (in_hole (upper right) (record { right_of = record { lt = tt }; left_of = record { lt = tt }; above = record { lt = tt }; below = record { lt = tt } })))
side_regions (suc (suc (suc (suc (suc (suc (suc (suc (suc (suc (suc (suc (suc zero))))))))))))) p h = here 13 (lower right) p 1 h (frame_region (lower right) (in_east (lower right) (record { right_of = record { lt = tt }; left_of = record { lt = tt }; above = record { lt = tt }; below = record { lt = tt } })))
side_regions (suc (suc (suc (suc (suc (suc (suc (suc (suc (suc (suc (suc (suc (suc zero)))))))))))))) p h = here 14 (upper east) p 1 h (frame_region (upper east) (in_east (upper east) (record { right_of = record { lt = tt }; left_of = record { lt = tt }; above = record { lt = tt }; below = record { lt = tt } })))
side_regions (suc (suc (suc (suc (suc (suc (suc (suc (suc (suc (suc (suc (suc (suc (suc zero))))))))))))))) p h = here 15 (lower east) p 0 h (outside_region (lower east) (from_east (lower east) (record { right_of = record { lt = tt }; left_of = record { lt = tt }; above = record { lt = tt }; below = record { lt = tt } })))
side_regions (suc (suc (suc (suc (suc (suc (suc (suc (suc (suc (suc (suc (suc (suc (suc (suc n)))))))))))))))) p h = absurd (none-some p h)

frame_regions : AreRegions frame_edges frame_numbers
frame_regions = record { count = refl; each = side_regions }

-- ---- its overlay

abbrev uses : List EdgeUse
uses = poly_uses 0 frame_rings

abbrev eight_pairs : List OddUse
eight_pairs = pairs 0 (0 ∷ 1 ∷ 2 ∷ 3 ∷ 4 ∷ 5 ∷ 6 ∷ 7 ∷ [])

abbrev StandsForEdge : OddUse → Type 0
StandsForEdge o = (e : Seg) × ((slice_get frame_edges o.edge ≡ Some e) × IsOdd uses o.member e)

odd_member : (m : ℕ) (e : Seg) → IsOdd uses m e → m ≡ 0
odd_member m e h =
    let found = some_passes (λ u. (u.member == m) && is_same_seg e u.seg) uses h in
    let its = (Decides-eqb (found.0).member m).0 (and_parts _ _ found.1.1).0 in
    sym its ∙ All-contains (λ u. u.member ≡ 0) uses found.0 (All-from_recursion (λ u. u.member ≡ 0) uses (refl, (refl, (refl, (refl, (refl, (refl, (refl, (refl, tt))))))))) found.1.0

pair_at : (m k : ℕ) → m ≡ 0 → k < 8 → Contains eight_pairs (record { member = m; edge = k })
pair_at m zero none below = (0, omega arith, λ i. record { member = sym none i; edge = 0 })
pair_at m (suc zero) none below = (1, omega arith, λ i. record { member = sym none i; edge = 1 })
pair_at m (suc (suc zero)) none below = (2, omega arith, λ i. record { member = sym none i; edge = 2 })
pair_at m (suc (suc (suc zero))) none below = (3, omega arith, λ i. record { member = sym none i; edge = 3 })
pair_at m (suc (suc (suc (suc zero)))) none below = (4, omega arith, λ i. record { member = sym none i; edge = 4 })
pair_at m (suc (suc (suc (suc (suc zero))))) none below = (5, omega arith, λ i. record { member = sym none i; edge = 5 })
pair_at m (suc (suc (suc (suc (suc (suc zero)))))) none below = (6, omega arith, λ i. record { member = sym none i; edge = 6 })
pair_at m (suc (suc (suc (suc (suc (suc (suc zero))))))) none below = (7, omega arith, λ i. record { member = sym none i; edge = 7 })
pair_at m (suc (suc (suc (suc (suc (suc (suc (suc k)))))))) none below = absurd (omega arith)

abbrev IsOddForSome : Seg → Type 0
IsOddForSome e = (m : ℕ) × IsOdd uses m e

frame_live : AreLiveEdges uses frame_edges eight_pairs
frame_live = record {
  ascending = AllPairs-from_recursion (λ e f. IsTrue (is_seg_before e f)) frame_edges (
    (refl, (refl, (refl, (refl, (refl, (refl, (refl, tt))))))),
    ((refl, (refl, (refl, (refl, (refl, (refl, tt)))))), ((refl, (refl, (refl, (refl, (refl, tt))))), ((refl, (refl, (refl, (refl, tt)))), ((refl, (refl, (refl, tt))), ((refl, (refl, tt)), ((refl, tt), (tt, tt))))))),
  );
  exact = λ e. (
    (λ has. All-contains IsOddForSome frame_edges e (All-from_recursion IsOddForSome frame_edges ((0, refl), ((0, refl), ((0, refl), ((0, refl), ((0, refl), ((0, refl), ((0, refl), ((0, refl), tt))))))))) has),
    (λ h. segs_in (segments uses) frame_edges refl e (odd_used uses h.0 e h.1)),
  );
  pairs = record {
    ascending = AllPairs-from_recursion (λ o p. IsTrue (is_odd_before o p)) eight_pairs (
      (refl, (refl, (refl, (refl, (refl, (refl, (refl, tt))))))),
      ((refl, (refl, (refl, (refl, (refl, (refl, tt)))))), ((refl, (refl, (refl, (refl, (refl, tt))))), ((refl, (refl, (refl, (refl, tt)))), ((refl, (refl, (refl, tt))), ((refl, (refl, tt)), ((refl, tt), (tt, tt))))))),
    );
    exact = λ o. (
      (λ has. All-contains StandsForEdge eight_pairs o (All-from_recursion StandsForEdge eight_pairs ((_, (refl, refl)), ((_, (refl, refl)), ((_, (refl, refl)), ((_, (refl, refl)), ((_, (refl, refl)), ((_, (refl, refl)), ((_, (refl, refl)), ((_, (refl, refl)), tt))))))))) has),
      (λ h. pair_at o.member o.edge (odd_member o.member h.0 h.1.1) (slice_get_within frame_edges o.edge h.0 h.1.0)),
    );
  };
}

frame_overlay : IsOverlayOf uses 1 frame
frame_overlay = record { odd = eight_pairs; live = frame_live; by_odd = refl; count = refl; numbered = frame_regions }

-- ---- the gap

hole_not_outer : ¬ IsOuterRegion frame_edges 7
hole_not_outer h =
    let is = side_is 7 (lower left) h.outer.at h.outer.side in
    let out : Linked far_point corner = from_east far_point (record { right_of = record { lt = tt }; left_of = record { lt = tt }; above = record { lt = tt }; below = record { lt = tt } }) in
    not_hole_outside (joined-trans frame_edges (lower left) far_point corner (subst (λ at. Linked at far_point) (sym is) h.outer.outer) out)

hole_gap : IsGap frame 7
unfolding sweep side
hole_gap = record {
  region = record { at = lower left; side = refl; own = frame_regions.each 7 (lower left) refl };
  not_outer = hole_not_outer;
  empty = refl;
}

not_empty : (x : ℕ) (xs : List ℕ) → (x ∷ xs) ≡ [] → ⊥
not_empty x xs e = let l = ap length e in omega arith

frame_no_gap : ¬ IsGap frame 1
unfolding sweep side
frame_no_gap h = not_empty 0 [] h.empty

hole_narrow : IsNarrow frame_edges 7 11
hole_narrow = record {
  wide = omega arith;
  no_room = λ h. (
      let is = side_is 7 (lower left) h.within.joined.at h.within.joined.side in
      let inside : Linked (at_coord h.at) (lower left) = subst (λ at. Linked (at_coord h.at) at) (sym is) h.within.joined.joined in
      let most = at_most_ten 11 h.at (joined-fewer frame_edges square_edges (segs_in square_edges frame_edges refl) (at_coord h.at) (lower left) inside) (λ e has. h.room e (segs_in square_edges frame_edges refl e has)) in
      omega arith);
}

narrow_gap : IsNarrowGap frame 7 11
narrow_gap = record { gap = hole_gap; narrow = hole_narrow }

hole_owner : IsOwner by_index 0 frame 11 7 (Some 0)
unfolding sweep side trapezoid root edge_length
hole_owner = inl (narrow_gap, refl)

pub frame_examples : FrameExamples
frame_examples = record {
  regions = frame_regions;
  overlay = frame_overlay;
  gap = hole_gap;
  no_gap = frame_no_gap;
  narrow = narrow_gap;
  not_narrow = λ h. frame_no_gap h.gap;
  owner = hole_owner;
}
