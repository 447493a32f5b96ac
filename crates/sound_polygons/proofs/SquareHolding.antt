-- Which points the coverage of one square holds: those of its region.
use Rattle.std.proofs.Common.{◌≡◌, inl, inr, refl, sym, ◌∙◌, ap, ℕ, zero, suc, ◌==◌, ◌&&◌, Bool, true, false, List, pos, ◌-ℤ◌, ◌*ℤ◌, ◌≤ℤ◌, arith}
use Rattle.std.specs.Prelude.{Contains, slice_index, unwrap_or}
use Rattle.std.proofs.lemmas.Bool.{and_parts, true≢false, false≢true}
use Rattle.std.proofs.lemmas.Bool.Decides.{Decides-eqb}
use Rattle.std.proofs.lemmas.Int.{ints}
use Rattle.std.proofs.lemmas.List.Elements.{All-from_recursion, All-contains}
use Rattle.std.proofs.lemmas.Option.{none-some}
use Rattle.integer_laws.proofs.Compare.{le_cases, lt_or_ge}
use Rattle.cov_types.specs.declared.edge_use.EdgeUse.{EdgeUse}
use Rattle.cov_types.specs.Uses.{uses_of}
use Rattle.crossing_laws.proofs.Coverages.{uses_even}
use Rattle.plane.specs.Examples.{left, bottom, top, right}
use Rattle.plane.specs.Joined.{IsOff, Joined}
use Rattle.plane.specs.Parity.{member_holds}
use Rattle.plane.specs.Point.{Point, at_coord}
use Rattle.plane.specs.Ray.{sweep, is_over, Rises}
use Rattle.plane.specs.Region.{IsRegionOf}
use Rattle.plane.specs.Segment.{side, upper, lower}
use Rattle.plane.proofs.Points.{between_by}
use Rattle.crossing_laws.specs.Crossing.{IsSwept}
use Rattle.crossing_laws.proofs.Located.{region-joined, one_region, same_region}
use Rattle.crossing_laws.proofs.Sums.{member_holds-joined}
use Rattle.crossing_laws.proofs.Ways.{joined_off, joined-sym, joined-trans}
use Rattle.arrangement.specs.Noding.{segments}
use Rattle.arrangement.specs.Square.{square_edges, square_numbers, lone}
use Rattle.arrangement.proofs.OddUses.{some_passes}
use Rattle.arrangement.proofs.Short.{segs_in}
use Rattle.arrangement.proofs.SquareRegions.{inner, square_regions}
use Rattle.arrangement.proofs.Squares.{corner, west_joined, south_joined, east_joined, north_joined, IsInside, inside_joined}
use Rattle.region_owners.specs.Square.{lone_owners}
use Rattle.sound_polygons.specs.Holding.{IsHeldBy, HoldsByOwner, IsUnionOf}
use Rattle.sound_polygons.specs.Square.{lone_square, no_square, square_and_nothing, HoldingExamples}

-- ---- the member holds joined points alike

abbrev uses : List EdgeUse
uses = uses_of lone_square

abbrev holds_it : Point → Bool
holds_it p = member_holds uses 0 p

square_swept : IsSwept square_edges
unfolding sweep
square_swept = λ e i. All-contains Rises square_edges e (All-from_recursion Rises square_edges (record { lt = tt }, (record { lt = tt }, (record { lt = tt }, (record { lt = tt }, tt))))) i

of_square : (u : EdgeUse) → Contains uses u → Contains square_edges u.seg
of_square u has = All-contains (λ v. Contains square_edges v.seg) uses u (All-from_recursion (λ v. Contains square_edges v.seg) uses ((1, omega arith, refl), ((3, omega arith, refl), ((2, omega arith, refl), ((0, omega arith, refl), tt))))) has

alike : (p q : Point) → Joined square_edges p q → holds_it p ≡ holds_it q
alike p q j = member_holds-joined uses 0 square_edges of_square square_swept (uses_even lone_square 0) p q j

held_inside : holds_it (lower left) ≡ true
unfolding sweep side
held_inside = refl

free_outside : holds_it (upper left) ≡ false
unfolding sweep side
free_outside = refl

-- no other member holds anything
none_else : (i : ℕ) (p : Point) → member_holds uses (suc i) p ≡ true → ⊥
none_else i p holds =
    let found = some_passes (λ u. (u.member == suc i) && is_over u.seg p) uses ((Decides-eqb _ 1).0 holds) in
    let same = (Decides-eqb (found.0).member (suc i)).0 (and_parts _ _ found.1.1).0 in
    let first = All-contains (λ u. u.member ≡ 0) uses found.0 (All-from_recursion (λ u. u.member ≡ 0) uses (refl, (refl, (refl, (refl, tt))))) found.1.0 in
    omega arith

-- ---- the regions of points

abbrev outside_at : IsRegionOf square_edges (upper left) 0
outside_at = square_regions.each 0 (upper left) refl

abbrev inside_at : IsRegionOf square_edges (lower left) 1
inside_at = square_regions.each 1 (lower left) refl

-- a region is one of the two
region_is : (p : Point) (r : ℕ) → IsRegionOf square_edges p r → r ≡ slice_index square_numbers r
region_is p r own =
    let j = own.joined in
    one_region square_edges p r (slice_index square_numbers r) own (region-joined square_edges j.at p (slice_index square_numbers r) (joined-sym square_edges p j.at j.joined) (square_regions.each r j.at j.side))

held_by : (p : Point) (r : ℕ) → IsRegionOf square_edges p r → IsHeldBy uses (lone_owners r) p
held_by p zero own zero =
    let out = alike p (upper left) (same_region square_edges p (upper left) 0 own outside_at) ∙ free_outside in
    (λ holds. absurd (true≢false (sym holds ∙ out)), λ is. absurd (none-some 0 is))
held_by p (suc zero) own zero = (
  (λ holds. refl),
  (λ is. alike p (lower left) (same_region square_edges p (lower left) 1 own inside_at) ∙ held_inside),
)
held_by p zero own (suc i) = (λ holds. absurd (none_else i p holds), λ is. absurd (none-some (suc i) is))
held_by p (suc zero) own (suc i) = (λ holds. absurd (none_else i p holds), λ is. (let e : 0 ≡ suc i = ap (λ o. unwrap_or o 0) is in absurd (omega arith)))
held_by p (suc (suc zero)) own i = absurd (let e = region_is p 2 own in omega arith)
held_by p (suc (suc (suc zero))) own i = absurd (let e = region_is p 3 own in omega arith)
held_by p (suc (suc (suc (suc zero)))) own i = absurd (let e = region_is p 4 own in omega arith)
held_by p (suc (suc (suc (suc (suc zero))))) own i = absurd (let e = region_is p 5 own in omega arith)
held_by p (suc (suc (suc (suc (suc (suc zero)))))) own i = absurd (let e = region_is p 6 own in omega arith)
held_by p (suc (suc (suc (suc (suc (suc (suc zero))))))) own i = absurd (let e = region_is p 7 own in omega arith)
held_by p (suc (suc (suc (suc (suc (suc (suc (suc r)))))))) own i = absurd (none-some own.joined.at own.joined.side)

-- ---- each point off the edges has a region

HasRegion : Point → Type 0
HasRegion p = (r : ℕ) × IsRegionOf square_edges p r

module _ (p : Point) (off : IsOff square_edges p) where
  by_corner : Joined square_edges p corner → HasRegion p
  unfolding HasRegion
  by_corner j = (0, region-joined square_edges (upper left) p 0 (joined-trans square_edges (upper left) corner p (west_joined (upper left) (record { lt = tt })) (joined-sym square_edges p corner j)) outside_at)

  by_inside : IsInside p → HasRegion p
  unfolding HasRegion
  by_inside h = (1, region-joined square_edges (lower left) p 1 (inside_joined (lower left) p inner h) inside_at)

  at_left : pos 0 ≡ p.x → pos 0 ≤ℤ p.y → p.y ≤ℤ (pos 10 *ℤ pos p.d) → ⊥
  at_left x low high =
      let d = p.positive in
      off left (0, omega arith, refl) (between_by p (at_coord left.lo) (at_coord left.hi) (pos 10) ((pos 10 *ℤ pos p.d) -ℤ p.y) p.y (omega (arith, ints)) low (omega (arith, ints)) (omega (arith, ints)) (omega (arith, ints)) (omega (arith, ints)))

  at_right : p.x ≡ pos 10 *ℤ pos p.d → pos 0 ≤ℤ p.y → p.y ≤ℤ (pos 10 *ℤ pos p.d) → ⊥
  at_right x low high =
      let d = p.positive in
      off right (3, omega arith, refl) (between_by p (at_coord right.lo) (at_coord right.hi) (pos 10) ((pos 10 *ℤ pos p.d) -ℤ p.y) p.y (omega (arith, ints)) low (omega (arith, ints)) (omega (arith, ints)) (omega (arith, ints)) (omega (arith, ints)))

  at_bottom : pos 0 ≡ p.y → pos 0 ≤ℤ p.x → p.x ≤ℤ (pos 10 *ℤ pos p.d) → ⊥
  at_bottom y low high =
      let d = p.positive in
      off bottom (1, omega arith, refl) (between_by p (at_coord bottom.lo) (at_coord bottom.hi) (pos 10) ((pos 10 *ℤ pos p.d) -ℤ p.x) p.x (omega (arith, ints)) low (omega (arith, ints)) (omega (arith, ints)) (omega (arith, ints)) (omega (arith, ints)))

  at_top : p.y ≡ pos 10 *ℤ pos p.d → pos 0 ≤ℤ p.x → p.x ≤ℤ (pos 10 *ℤ pos p.d) → ⊥
  at_top y low high =
      let d = p.positive in
      off top (2, omega arith, refl) (between_by p (at_coord top.lo) (at_coord top.hi) (pos 10) ((pos 10 *ℤ pos p.d) -ℤ p.x) p.x (omega (arith, ints)) low (omega (arith, ints)) (omega (arith, ints)) (omega (arith, ints)) (omega (arith, ints)))

  within : pos 0 ≤ℤ p.x → p.x ≤ℤ (pos 10 *ℤ pos p.d) → pos 0 ≤ℤ p.y → p.y ≤ℤ (pos 10 *ℤ pos p.d) → HasRegion p
  within west east south north = elim (le_cases west) [
    | inr x ↦ absurd (at_left x south north)
    | inl a ↦ elim (le_cases east) [
      | inr x ↦ absurd (at_right x south north)
      | inl b ↦ elim (le_cases south) [
        | inr y ↦ absurd (at_bottom y west east)
        | inl c ↦ elim (le_cases north) [
          | inr y ↦ absurd (at_top y west east)
          | inl d ↦ by_inside (record { right_of = a; left_of = b; above = c; below = d })
        ]
      ]
    ]
  ]

  has_region : HasRegion p
  has_region = elim (lt_or_ge p.x (pos 0)) [
    | inl out ↦ by_corner (west_joined p out)
    | inr west ↦ elim (lt_or_ge (pos 10 *ℤ pos p.d) p.x) [
      | inl out ↦ by_corner (east_joined p out)
      | inr east ↦ elim (lt_or_ge p.y (pos 0)) [
        | inl out ↦ by_corner (south_joined p out)
        | inr south ↦ elim (lt_or_ge (pos 10 *ℤ pos p.d) p.y) [
          | inl out ↦ by_corner (north_joined p out)
          | inr north ↦ within west east south north
        ]
      ]
    ]
  ]

square_holds : HoldsByOwner square_edges lone lone_owners lone_square
unfolding HasRegion
square_holds = record {
  within = λ p off r own. held_by p r own;
  without = λ p off none. (let its = has_region p off in absurd (none its.0 its.1));
}

-- ---- what holds something else

inside_off : IsOff square_edges (lower left)
inside_off = joined_off square_edges (lower left) (lower left) (inside_joined (lower left) (lower left) inner inner)

empty_holds_not : ¬ HoldsByOwner square_edges lone lone_owners no_square
empty_holds_not h = false≢true ((h.within (lower left) inside_off 1 inside_at 0).1 refl)

-- ---- union

union_holds : IsUnionOf square_and_nothing lone_square
union_holds = record { one = refl; holds = λ p off. (λ h. (0, h), λ some. by p some.0 some.1) }
  where
    by : (p : Point) (i : ℕ) → member_holds (uses_of square_and_nothing) i p ≡ true → member_holds uses 0 p ≡ true
    by p zero h = h
    by p (suc i) h = absurd (none_else i p h)

union_holds_not : ¬ IsUnionOf square_and_nothing no_square
union_holds_not h = false≢true ((h.holds (lower left) (λ e has. inside_off e (segs_in (segments (uses_of square_and_nothing)) square_edges refl e has))).1 (0, held_inside))

pub holding_examples : HoldingExamples
holding_examples = record { by_owner = square_holds; not_by_owner = empty_holds_not; union = union_holds; no_union = union_holds_not }
