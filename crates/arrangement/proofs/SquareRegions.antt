-- The regions of the square of size 10.
use Rattle.std.proofs.Common.{◌≡◌, refl, sym, ap, subst, ℕ, zero, suc, ◌≤◌, arith}
use Rattle.std.specs.Prelude.{Some, slice_index, unwrap_or}
use Rattle.std.proofs.lemmas.Option.{none-some}
use Rattle.plane.specs.Examples.{left, bottom, top, right}
use Rattle.plane.specs.Joined.{Joined}
use Rattle.plane.specs.Point.{Point}
use Rattle.plane.specs.Region.{IsSide, IsJoinedSide, IsRegionOf, AreRegions, IsOuterRegion, far_point}
use Rattle.plane.specs.Segment.{upper, lower}
use Rattle.crossing_laws.proofs.Ways.{joined-sym, joined-trans}
use Rattle.arrangement.specs.Square.{square_edges, square_numbers}
use Rattle.arrangement.proofs.Squares.{corner, west_joined, south_joined, east_joined, north_joined, IsInside, inside_joined, sides_apart}

-- ---- side points

-- the side points outside are joined with the first of them
outside_region : (p : Point) → Joined square_edges p corner → IsRegionOf square_edges p 0
outside_region p j = record {
  joined = record { at = upper left; side = refl; joined = joined-trans square_edges p corner (upper left) j (joined-sym square_edges (upper left) corner (west_joined (upper left) (record { lt = tt }))) };
  least = λ n h. omega arith;
}

-- a side is not the first where its side point is joined with the inside
not_first : (p : Point) → Joined square_edges p (lower left) → (n : ℕ) → IsJoinedSide square_edges p n → 1 ≤ n
not_first p inside zero h =
    let at_first : upper left ≡ h.at = ap (λ o. unwrap_or o (upper left)) h.side in
    let j = subst (λ at. Joined square_edges p at) (sym at_first) h.joined in
    absurd (sides_apart (joined-trans square_edges (lower left) p (upper left) (joined-sym square_edges p (lower left) inside) j))
not_first p inside (suc n) h = omega arith

inside_region : (p : Point) → Joined square_edges p (lower left) → IsRegionOf square_edges p 1
inside_region p j = record { joined = record { at = lower left; side = refl; joined = j }; least = not_first p j }

pub inner : IsInside (lower left)
inner = record { right_of = record { lt = tt }; left_of = record { lt = tt }; above = record { lt = tt }; below = record { lt = tt } }

pub inside_is : (p : Point) → IsInside p → IsRegionOf square_edges p 1
inside_is p h = inside_region p (inside_joined p (lower left) h inner)

-- the point at the side is this one
at_side : (n : ℕ) (p q : Point) (r : ℕ) → Some p ≡ Some q → IsRegionOf square_edges p r → IsRegionOf square_edges q r
at_side n p q r h region = subst (λ at. IsRegionOf square_edges at r) (ap (λ o. unwrap_or o p) h) region

side_regions : (n : ℕ) (p : Point) → IsSide square_edges n p → IsRegionOf square_edges p (slice_index square_numbers n)
side_regions zero p h = at_side 0 (upper left) p 0 h (outside_region (upper left) (west_joined (upper left) (record { lt = tt })))
side_regions (suc zero) p h = at_side 1 (lower left) p 1 h (inside_is (lower left) inner)
side_regions (suc (suc zero)) p h = at_side 2 (upper bottom) p 1 h (inside_is (upper bottom) (record { right_of = record { lt = tt }; left_of = record { lt = tt }; above = record { lt = tt }; below = record { lt = tt } }))
side_regions (suc (suc (suc zero))) p h = at_side 3 (lower bottom) p 0 h (outside_region (lower bottom) (south_joined (lower bottom) (record { lt = tt })))
side_regions (suc (suc (suc (suc zero)))) p h = at_side 4 (upper top) p 0 h (outside_region (upper top) (north_joined (upper top) (record { lt = tt })))
side_regions (suc (suc (suc (suc (suc zero))))) p h = at_side 5 (lower top) p 1 h (inside_is (lower top) (record { right_of = record { lt = tt }; left_of = record { lt = tt }; above = record { lt = tt }; below = record { lt = tt } }))
side_regions (suc (suc (suc (suc (suc (suc zero)))))) p h = at_side 6 (upper right) p 1 h (inside_is (upper right) (record { right_of = record { lt = tt }; left_of = record { lt = tt }; above = record { lt = tt }; below = record { lt = tt } }))
side_regions (suc (suc (suc (suc (suc (suc (suc zero))))))) p h = at_side 7 (lower right) p 0 h (outside_region (lower right) (east_joined (lower right) (record { lt = tt })))
side_regions (suc (suc (suc (suc (suc (suc (suc (suc n)))))))) p h = absurd (none-some p h)

pub square_regions : AreRegions square_edges square_numbers
square_regions = record { count = refl; each = side_regions }

-- region 0 is the outer one
pub outer_region : IsOuterRegion square_edges 0
outer_region = record {
  outer = record {
    at = upper left;
    side = refl;
    outer = joined-trans square_edges (upper left) corner far_point (west_joined (upper left) (record { lt = tt })) (joined-sym square_edges far_point corner (east_joined far_point (record { lt = tt })));
  };
  least = λ n h. omega arith;
}

-- a point of the inside is not joined with the corner outside
pub not_outside : (p : Point) → Joined square_edges p (lower left) → Joined square_edges p corner → ⊥
not_outside p inside outside =
    let back = joined-sym square_edges (upper left) corner (west_joined (upper left) (record { lt = tt })) in
    sides_apart (joined-trans square_edges (lower left) p (upper left) (joined-sym square_edges p (lower left) inside) (joined-trans square_edges p corner (upper left) outside back))

-- so the inside is not outer
pub inside_not_outer : ¬ IsOuterRegion square_edges 1
inside_not_outer h =
    let here : lower left ≡ h.outer.at = ap (λ o. unwrap_or o (lower left)) h.outer.side in
    let out = joined-trans square_edges (lower left) far_point corner (subst (λ at. Joined square_edges at far_point) (sym here) h.outer.outer) (east_joined far_point (record { lt = tt })) in
    not_outside (lower left) (inside_joined (lower left) (lower left) inner inner) out
