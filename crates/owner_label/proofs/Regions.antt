-- The labels of regions: one for all their points, and toggled across each side.
use Rattle.std.proofs.Common.{◌≡◌, sym, ◌∙◌, ap, subst, ℕ, ◌*◌, ◌/◌, ◌<◌, Bool, true, false, List, [], length, get_or, arith}
use Rattle.std.proofs.lemmas.List.{get_or_read}
use Rattle.std.proofs.lemmas.Option.{slice_get_within, slice_get-get_or}
use Rattle.plane.specs.Joined.{Joined}
use Rattle.plane.specs.Parity.{member_holds}
use Rattle.plane.specs.Point.{Point}
use Rattle.plane.specs.Region.{side_points, far_point, IsSide, IsRegionOf, IsOuter, IsOuterRegion}
use Rattle.crossing_laws.proofs.Located.{same_region, region-joined, one_region}
use Rattle.sector_laws.specs.Sector.{left, twin}
use Rattle.sector_laws.proofs.Numbers.{half_edge_side}
use Rattle.region_laws.proofs.Numbered.{side_half_edge}
use Rattle.owner_label.specs.Members.{has, differs, members_of, IsToggled}
use Rattle.half_edge.specs.Side.{across}
use Rattle.owner_label.specs.Sided.{Sided, AreSided, region_on, odd_uses_of, IsLabelAt, IsRegionLabel}
use Rattle.owner_label.proofs.Labelling.{holds_alike, outer_free}
use Rattle.owner_label.proofs.Sides.{sides-length, edge_of, twin_at}
use Rattle.owner_label.proofs.Toggles.{member_turned}

module _ (s : Sided) (sided : AreSided s) where
  pub side_within : (n : ℕ) (p : Point) → IsSide s.edges n p → n < 2 * length s.edges
  side_within n p at = let within = slice_get_within _ n p at in omega (arith, within, sides-length s.edges)

  -- the region of a side is a side, and its own region
  pub region_own : (n : ℕ) (p : Point) → IsSide s.edges n p → region_on s (region_on s n) ≡ region_on s n
  region_own n p at =
      let is = sided.numbered.each n p at in
      one_region s.edges is.joined.at (region_on s (region_on s n)) (region_on s n) (sided.numbered.each (region_on s n) is.joined.at is.joined.side)
      (region-joined s.edges p is.joined.at (region_on s n) is.joined.joined is)

  -- sides are joined exactly where they have one region
  pub region_joined : (n m : ℕ) (p q : Point) → IsSide s.edges n p → IsSide s.edges m q → region_on s n ≡ region_on s m → Joined s.edges p q
  region_joined n m p q at_n at_m same =
      same_region s.edges p q (region_on s n) (sided.numbered.each n p at_n) (subst (λ r. IsRegionOf s.edges q r) (sym same) (sided.numbered.each m q at_m))

  pub joined_region : (n m : ℕ) (p q : Point) → IsSide s.edges n p → IsSide s.edges m q → Joined s.edges p q → region_on s n ≡ region_on s m
  joined_region n m p q at_n at_m j =
      one_region s.edges q (region_on s n) (region_on s m) (region-joined s.edges p q (region_on s n) j (sided.numbered.each n p at_n)) (sided.numbered.each m q at_m)

  -- members hold joined points alike
  pub holds_joined : (p q : Point) → Joined s.edges p q → (m : ℕ) → member_holds (odd_uses_of s) m p ≡ member_holds (odd_uses_of s) m q
  holds_joined p q j m = holds_alike s.edges s.odd sided.planar sided.even p q j m

  pub label_joined : (p q : Point) (label : List ℕ) → Joined s.edges p q → IsLabelAt (odd_uses_of s) p label → IsLabelAt (odd_uses_of s) q label
  label_joined p q label j is = record { ascending = is.ascending; exact = λ m. is.exact m ∙ holds_joined p q j m }

  -- a label of one side point is that of the region
  pub region_label : (n : ℕ) (p : Point) (label : List ℕ) → IsSide s.edges n p → IsLabelAt (odd_uses_of s) p label → IsRegionLabel s (region_on s n) label
  region_label n p label at is m q at_m same = label_joined p q label (region_joined n m p q at at_m (sym same)) is

  turned : (a b c : Bool) → differs a b ≡ c → differs b a ≡ c
  turned true true c e = e
  turned true false c e = e
  turned false true c e = e
  turned false false c e = e

  -- across a side the label is toggled by the members of its edge
  pub label_across : (n : ℕ) (p : Point) (label after : List ℕ) → IsSide s.edges n p → IsLabelAt (odd_uses_of s) p label → IsToggled label (members_of s.odd (n / 2)) after
      → IsRegionLabel s (region_on s (across n)) after
  label_across n p label after at is toggled =
      let (h, of) = side_half_edge s.edges n p at in
      let over : IsSide s.edges (across n) (left (twin h)) = half_edge_side s.edges (across n) (twin h) (twin_at s.edges n h of.is) in
      region_label (across n) (left (twin h)) after over (record {
        ascending = toggled.ascending;
        exact = λ m.
            toggled.exact m ∙ ap (λ b. differs b (has (members_of s.odd (n / 2)) m)) (is.exact m ∙ ap (λ q. member_holds (odd_uses_of s) m q) (sym of.point))
            ∙ turned (has (members_of s.odd (n / 2)) m) (member_holds (odd_uses_of s) m (left h)) _
            (sym (member_turned s.edges s.odd sided.planar sided.distinct sided.ascending sided.places (n / 2) h (edge_of s.edges n h of.is) m));
      })

  pub region_within : (n : ℕ) → n < 2 * length s.edges → region_on s n < 2 * length s.edges
  region_within n h =
      let at = slice_get-get_or (side_points s.edges) n far_point (omega (arith, sides-length s.edges)) in
      let is = sided.numbered.each n _ at in
      side_within (region_on s n) is.joined.at is.joined.side

  -- the same for what was read
  pub region_read : (n r : ℕ) → n < 2 * length s.edges → r ≡ get_or s.regions n r → r < 2 * length s.edges
  region_read n r h e =
      let same = get_or_read s.regions n r (omega (arith, sided.numbered.count)) e 0 in
      subst (λ k. k < 2 * length s.edges) (sym same) (region_within n h)

  -- each side has a side point
  pub side_point : (n : ℕ) → n < 2 * length s.edges → (p : Point) × IsSide s.edges n p
  side_point n h = (get_or (side_points s.edges) n far_point, slice_get-get_or (side_points s.edges) n far_point (omega (arith, sides-length s.edges)))

  -- the empty label is that of the outer region
  pub outer_label : (n : ℕ) (p : Point) → IsSide s.edges n p → IsOuter s.edges p → IsRegionLabel s (region_on s n) []
  outer_label n p at outer = region_label n p [] at (record { ascending = tt; exact = λ m. sym (outer_free s.edges s.odd sided.planar sided.even p outer m) })

  pub label_outer : (r : ℕ) (label : List ℕ) → IsOuterRegion s.edges r → region_on s r ≡ r → label ≡ [] → IsRegionLabel s r label
  label_outer r label outer own empty = subst (λ xs. IsRegionLabel s r xs) (sym empty) (subst (λ k. IsRegionLabel s k []) own (outer_label r outer.outer.at outer.outer.side outer.outer.outer))
