-- Owners by labels are those of a union.
use mathlib.Core.List.{[], ◌∷◌}
use Rattle.std.proofs.Common.{◌≡◌, refl, ◌∙◌, ap, ℕ, ◌<◌, List, length, get_or, Some, None, arith}
use Rattle.std.specs.Prelude.{All, IfSome, slice_index}
use Rattle.std.proofs.lemmas.List.{get_or-map, length-map}
use Rattle.std.proofs.lemmas.List.Elements.{All-map}
use Rattle.std.proofs.lemmas.Option.{unwrap_or-slice_get}
use Rattle.plane.specs.Region.{AreRegions, IsOuterRegion, far_point}
use Rattle.crossing_laws.proofs.Located.{one_region, side_within}
use Rattle.arrangement.specs.Live.{IsLiveOverlay}
use Rattle.arrangement.specs.Overlay.{Overlay, IsRegion, label_of}
use Rattle.cleaned_laws.specs.Owning.{AreUnionOwners}
use Rattle.cleaned_laws.proofs.Built.{region_of}
use Rattle.cleaned_laws.proofs.Cleaned.{far_region, outer_label}
use Rattle.cov_build.specs.Owners.{owner_in}
use Rattle.cov_union.specs.Owners.{union_owner, union_owners}

-- ---- the owner by a label

owner_below : (label : List ℕ) → IfSome (union_owner label) (λ i. i < 1)
owner_below [] = tt
owner_below (member ∷ label) = omega arith

owner_of_some : (label : List ℕ) → 0 < length label → union_owner label ≡ Some 0
owner_of_some [] some = absurd (omega (arith, some))
owner_of_some (member ∷ label) some = refl

pub owners_below : (o : Overlay) (numbers : List ℕ) → All (λ owner. IfSome owner (λ i. i < 1)) (union_owners o numbers)
owners_below o numbers = All-map (λ owner. IfSome owner (λ i. i < 1)) (λ r. union_owner (label_of o r)) numbers (λ k d within. owner_below (label_of o (get_or numbers k d)))

pub owners_count : (o : Overlay) (numbers : List ℕ) → length (union_owners o numbers) ≡ length numbers
owners_count o numbers = length-map numbers (λ r. union_owner (label_of o r))

-- ---- the owners of regions

module _ (o : Overlay) (numbered : AreRegions o.edges o.numbers) where
  -- a region has the owner by its label
  owner_at : (r : ℕ) → IsRegion o.edges r → owner_in (union_owners o o.numbers) r ≡ union_owner (label_of o r)
  owner_at r region =
      let own : slice_index o.numbers r ≡ r = one_region o.edges region.at (slice_index o.numbers r) r (numbered.each r region.at region.side) region.own in
      let inside : r < length o.numbers = (let below = side_within o.edges r region.at region.side in let count = numbered.count in omega (arith, below, count)) in
      unwrap_or-slice_get (union_owners o o.numbers) r None
      ∙ (get_or-map (λ n. union_owner (label_of o n)) o.numbers r 0 None inside
      ∙ ap (λ n. union_owner (label_of o n)) own)

  pub are_union_owners : AreUnionOwners o (owner_in (union_owners o o.numbers))
  are_union_owners = record {
    held = λ r region some. owner_at r region ∙ owner_of_some (label_of o r) some;
    free = λ r region none. owner_at r region ∙ ap union_owner none;
  }

-- the outer region has no owner
pub outer_unowned : (o : Overlay) → IsLiveOverlay o → (r : ℕ) → IsOuterRegion o.edges r → owner_in (union_owners o o.numbers) r ≡ None
outer_unowned o live r outer =
    (are_union_owners o live.regions).free r (region_of o.edges far_point r (far_region o.edges r outer)) (outer_label o live r outer)
