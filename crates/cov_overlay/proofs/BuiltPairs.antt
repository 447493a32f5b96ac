-- The pairs of the sides between the live edges of two coverages, their places, and what is built of them.
use Rattle.std.proofs.Common.{◌≡◌, refl, sym, ◌∙◌, ap, subst, ℕ, ◌*◌, ◌<◌, ◌==◌, ◌↔◌, Bool, true, false, cond, List, ◌++◌, length, map, get_or, IsTrue, arith}
use Rattle.std.specs.Prelude.{All, AllPairs, Contains, Option, Some, None, IfSome}
use Rattle.std.proofs.lemmas.Bool.{eq-eqb}
use Rattle.std.proofs.lemmas.Bool.Decides.{Decides-eqb}
use Rattle.std.proofs.lemmas.List.{length-map}
use Rattle.std.proofs.lemmas.Option.{none-some, unwrap_or-slice_get, slice_get-get_or, slice_get_within, get_or_from_slice_get}
use Rattle.cov_types.specs.Coverage.{Members, AllInRange}
use Rattle.cov_types.specs.Uses.{uses_of}
use Rattle.cov_types.specs.declared.seg.Seg.{Seg}
use Rattle.plane.specs.Label.{numbers_below}
use Rattle.plane.specs.Region.{far_point, AreRegions, IsOuterRegion}
use Rattle.crossing_laws.proofs.Located.{one_region, side_within}
use Rattle.arrangement.specs.declared.odd_use.OddUse.{OddUse}
use Rattle.arrangement.specs.Overlay.{Overlay, IsRegion, IsSnappedOverlay, region_at}
use Rattle.sound_polygons.specs.Cleaned.{IsBuilt}
use Rattle.cleaned_laws.proofs.Built.{region_of}
use Rattle.cleaned_laws.proofs.Cleaned.{far_region}
use Rattle.owner_label.specs.Labelled.{Labelled, IsOverlay}
use Rattle.owner_label.proofs.Overlays.{answered_region}
use Rattle.cov_build.specs.Owners.{owner_in}
use Rattle.cov_clean.specs.SnappedEdges.{AreSnappedEdges}
use Rattle.cov_clean.proofs.Numbers.{numbers_count, made_at}
use Rattle.cov_clean.proofs.Overlays.{snapped_one, snapped_labels}
use Rattle.overlaid_laws.specs.declared.pair.Pair.{Pair}
use Rattle.overlaid_laws.specs.Overlaid.{AreJointPairs, AreOverlaidOwners, IsOverlaid}
use Rattle.overlaid_laws.specs.Pairs.{is_pair_before, region_pair, IsRegionPair, ArePairs}
use Rattle.overlaid_laws.proofs.PairOwners.{outer_pair}
use Rattle.overlaid_laws.proofs.SnappedLabels.{live}
use Rattle.cov_overlay.specs.Places.{IsPlace, ArePlaces}
use Rattle.cov_overlay.specs.SidePairs.{side_pair}

-- ---- the pairs of the sides of an overlay

module _ (n : ℕ) (o : Overlay) (regions : AreRegions o.edges o.numbers) (by_side : List (Option Pair)) (made : by_side ≡ map (side_pair n o) (numbers_below (2 * length o.edges))) where
  sides_count : length by_side ≡ 2 * length o.edges
  sides_count = ap length made ∙ length-map (numbers_below (2 * length o.edges)) (side_pair n o) ∙ numbers_count (2 * length o.edges)

  read : (k : ℕ) (d : Option Pair) → k < 2 * length o.edges → get_or by_side k d ≡ side_pair n o k
  read k d within = ap (λ xs. get_or xs k d) made ∙ made_at (side_pair n o) (2 * length o.edges) k d within

  -- a region is at the side of its number
  region_within : (r : ℕ) → IsRegion o.edges r → r < 2 * length o.edges
  region_within r region = side_within o.edges r region.at region.side

  read_region : (r : ℕ) (d : Option Pair) → IsRegion o.edges r → get_or by_side r d ≡ region_pair n o r
  read_region r d region =
      let own = one_region o.edges region.at (region_at o r) r (regions.each r region.at region.side) region.own in
      read r d (region_within r region) ∙ ap (λ (b : Bool). cond b (region_pair n o r) None) (eq-eqb (region_at o r) r own)

  -- and a side with a pair has the number of a region
  region_of_side : (k : ℕ) (pair : Pair) → k < 2 * length o.edges → side_pair n o k ≡ Some pair → IsRegionPair n o pair
  region_of_side k pair within = by (region_at o k == k) refl
    where
      by : (b : Bool) → (region_at o k == k) ≡ b → cond b (region_pair n o k) None ≡ Some pair → IsRegionPair n o pair
      by true own has =
          let same = (Decides-eqb (region_at o k) k).0 own in
          record { region = k; is_region = subst (IsRegion o.edges) same (answered_region o.edges k (region_at o k) within (regions.each k)); has = has }
      by false other has = absurd (none-some pair has)

  -- the pairs of sides are those of regions
  side_has : (pair : Pair) → Contains by_side (Some pair) ↔ IsRegionPair n o pair
  side_has pair = (
    λ (k, inside, is). (let within : k < 2 * length o.edges = omega (arith, inside, sides_count) in region_of_side k pair within (sym (read k (Some pair) within) ∙ is)),
    λ of. (of.region, (let within = region_within of.region of.is_region in omega (arith, within, sides_count)), read_region of.region (Some pair) of.is_region ∙ of.has),
  )

-- ---- places

place_below : (pairs : List Pair) (pair : Option Pair) (owner : Option ℕ) → IsPlace pairs pair owner → IfSome owner (λ i. i < length pairs)
place_below pairs None owner at = subst (λ (found : Option ℕ). IfSome found (λ i. i < length pairs)) (sym at) tt
place_below pairs (Some pair) owner at = subst (λ (found : Option ℕ). IfSome found (λ i. i < length pairs)) (sym at.owned) (slice_get_within pairs at.place pair at.listed)

-- ---- two coverages

module _ (a b : Members) (in_range : AllInRange (a ++ b)) (edges : List Seg) (odd : List OddUse) (are : AreSnappedEdges (a ++ b) edges odd) (l : Labelled) (same : l ≡ record { edges = edges; odd = odd })
    (n : ℕ) (first : n ≡ length a) (by_side : List (Option Pair)) (made : (o : Overlay) → IsOverlay l o → by_side ≡ map (side_pair n o) (numbers_below (2 * length o.edges))) where
  of : (o : Overlay) → IsSnappedOverlay (uses_of (a ++ b)) (length (a ++ b)) o → by_side ≡ map (side_pair (length a) o) (numbers_below (2 * length o.edges))
  of o is = subst (λ m. by_side ≡ map (side_pair m o) (numbers_below (2 * length o.edges))) first (made o (snapped_labels (a ++ b) in_range edges odd are l same o is))

  count : length by_side ≡ 2 * length edges
  count =
      let (o, (is, between)) = snapped_one (a ++ b) in_range edges odd are in
      sides_count (length a) o is.overlay.numbered by_side (of o is) ∙ ap (λ (es : List Seg). 2 * length es) between

  module _ (pairs : List Pair) (ascending : AllPairs (λ p q. IsTrue (is_pair_before p q)) pairs) (exact : (pair : Pair) → Contains pairs pair ↔ Contains by_side (Some pair)) where
    -- the pairs of all sides are those of the two coverages
    pub are_pairs : (o : Overlay) → IsSnappedOverlay (uses_of (a ++ b)) (length (a ++ b)) o → ArePairs (length a) o pairs
    are_pairs o is = record {
      ascending = ascending;
      exact = λ pair. (let side = side_has (length a) o is.overlay.numbered by_side (of o is) pair in (λ has. side.0 ((exact pair).0 has), λ has. (exact pair).1 (side.1 has)));
    }

    pub joint_pairs : AreJointPairs a b pairs
    joint_pairs = let (o, (is, between)) = snapped_one (a ++ b) in_range edges odd are in record { overlay = o; is_overlay = is; are_pairs = are_pairs o is }

    -- and each of them is in the list
    pub among : All (λ pair. IfSome pair (Contains pairs)) by_side
    among k d within = by (get_or by_side k d) refl
      where
        by : (found : Option Pair) → get_or by_side k d ≡ found → IfSome found (Contains pairs)
        by None is = tt
        by (Some pair) is = (exact pair).1 (k, within, get_or_from_slice_get by_side k (Some pair) (Some pair) (slice_get-get_or by_side k d within ∙ ap Some is))

    module _ (owners : List (Option ℕ)) (places : ArePlaces pairs by_side owners) where
      pub owners_count : length owners ≡ 2 * length edges
      owners_count = places.count ∙ count

      pub owners_below : All (λ owner. IfSome owner (λ i. i < length pairs)) owners
      owners_below k d within =
          let inside : k < length by_side = omega (arith, within, places.count) in
          place_below pairs (get_or by_side k None) (get_or owners k d) (places.each k None d inside)

      -- the owner of a region is the place of its pair
      at_region : (o : Overlay) → IsSnappedOverlay (uses_of (a ++ b)) (length (a ++ b)) o → (r : ℕ) → IsRegion o.edges r → IsPlace pairs (region_pair (length a) o r) (owner_in owners r)
      at_region o is r region =
          let numbered = is.overlay.numbered in
          let inside : r < length by_side = (
          let within = region_within (length a) o numbered by_side (of o is) r region in
          omega (arith, within, sides_count (length a) o numbered by_side (of o is))
          ) in
          subst (λ (owner : Option ℕ). IsPlace pairs (region_pair (length a) o r) owner) (sym (unwrap_or-slice_get owners r None))
          (subst (λ (pair : Option Pair). IsPlace pairs pair (get_or owners r None)) (read_region (length a) o numbered by_side (of o is) r None region) (places.each r None None inside))

      pub are_owners : (o : Overlay) → IsSnappedOverlay (uses_of (a ++ b)) (length (a ++ b)) o → AreOverlaidOwners (length a) o pairs (owner_in owners)
      are_owners o is = record {
        placed = λ r pair region has. subst (λ (found : Option Pair). IsPlace pairs found (owner_in owners r)) has (at_region o is r region);
        free = λ r region none. subst (λ (found : Option Pair). IsPlace pairs found (owner_in owners r)) none (at_region o is r region);
      }

      -- nobody owns the outer region
      pub outer_free : (r : ℕ) → IsOuterRegion edges r → owner_in owners r ≡ None
      outer_free r outer =
          let (o, (is, between)) = snapped_one (a ++ b) in_range edges odd are in
          let its = subst (λ (es : List Seg). IsOuterRegion es r) (sym between) outer in
          (are_owners o is).free r (region_of o.edges far_point r (far_region o.edges r its)) (outer_pair o (live (a ++ b) in_range o is) (length a) r its)

      -- what is built of them is the overlay
      pub overlaid : (out : Members) → ((q : Overlay) → q.edges ≡ edges → AreRegions q.edges q.numbers → IsBuilt q (owner_in owners) (length pairs) out) → IsOverlaid a b pairs out
      overlaid out built =
          let (o, (is, between)) = snapped_one (a ++ b) in_range edges odd are in
          record { overlay = o; is_overlay = is; are_pairs = are_pairs o is; owners = owner_in owners; are_owners = are_owners o is; built = built o between is.overlay.numbered }

      -- the same of the edges, the owners and the count as they were given
      pub overlaid_by : (between : List Seg) (given : List (Option ℕ)) (many : ℕ) → between ≡ edges → given ≡ owners → many ≡ length pairs → (out : Members)
          → ((q : Overlay) → q.edges ≡ between → AreRegions q.edges q.numbers → IsBuilt q (owner_in given) many out) → IsOverlaid a b pairs out
      overlaid_by between given many is own all out built =
          overlaid out (λ q same_edges regions. subst (λ (m : ℕ). IsBuilt q (owner_in owners) m out) all (subst (λ (os : List (Option ℕ)). IsBuilt q (owner_in os) many out) own (built q (same_edges ∙ sym is) regions)))
