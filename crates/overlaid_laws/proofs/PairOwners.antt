-- Owners by pairs are owners that polygons can be built of, and two choices of them are one.
use Rattle.std.proofs.Common.{◌≡◌, refl, sym, ◌∙◌, ap, subst, ℕ, List, ◌++◌, length}
use Rattle.std.specs.Prelude.{AllPairs, Option, Some, None, slice_get, IsTrue}
use Rattle.std.proofs.lemmas.Option.{none-some, same_Some, slice_get_within}
use Rattle.cov_types.specs.Coverage.{Members, AllInRange}
use Rattle.cov_types.specs.Uses.{uses_of}
use Rattle.plane.specs.Region.{far_point, IsOuterRegion}
use Rattle.sound_polygons.specs.Laws.{AgreeOnRegions}
use Rattle.arrangement.specs.Live.{IsLiveOverlay}
use Rattle.arrangement.specs.Overlay.{Overlay, IsRegion, IsSnappedOverlay}
use Rattle.cleaned_laws.specs.Owning.{AreMemberOwners}
use Rattle.cleaned_laws.proofs.Built.{region_of}
use Rattle.cleaned_laws.proofs.Cleaned.{ascending_distinct, far_region, outer_label}
use Rattle.overlaid_laws.specs.declared.pair.Pair.{Pair}
use Rattle.overlaid_laws.specs.Overlaid.{AreOverlaidOwners}
use Rattle.overlaid_laws.specs.Pairs.{is_pair_before, pair_of, region_pair}
use Rattle.overlaid_laws.proofs.OnePairs.{one_place}
use Rattle.overlaid_laws.proofs.SnappedLabels.{live}

pub outer_pair : (o : Overlay) → IsLiveOverlay o → (n r : ℕ) → IsOuterRegion o.edges r → region_pair n o r ≡ None
outer_pair o is_live n r outer = ap (pair_of n) (outer_label o is_live r outer)

module _ (n : ℕ) (o : Overlay) (pairs : List Pair) (owners : ℕ → Option ℕ) (are : AreOverlaidOwners n o pairs owners) where
  -- the owner of a region is a place of its pair
  pub place_of : (r k : ℕ) → IsRegion o.edges r → owners r ≡ Some k → (pair : Pair) × ((slice_get pairs k ≡ Some pair) × (region_pair n o r ≡ Some pair))
  place_of r k region owned = by (region_pair n o r) refl
    where
      by : (x : Option Pair) → region_pair n o r ≡ x → (pair : Pair) × ((slice_get pairs k ≡ Some pair) × (region_pair n o r ≡ Some pair))
      by None is = absurd (none-some k (sym (are.free r region is) ∙ owned))
      by (Some pair) is =
          let at = are.placed r pair region is in
          (pair, (subst (λ j. slice_get pairs j ≡ Some pair) (same_Some at.place k (sym at.owned ∙ owned)) at.listed, is))

  -- and a region with the pair at a place is owned by that place
  pub owned_at : AllPairs (λ p q. IsTrue (is_pair_before p q)) pairs → (r k : ℕ) (pair : Pair) → IsRegion o.edges r → region_pair n o r ≡ Some pair → slice_get pairs k ≡ Some pair → owners r ≡ Some k
  owned_at up r k pair region has listed =
      let at = are.placed r pair region has in
      at.owned ∙ ap Some (one_place pairs up at.place k pair at.listed listed)

pub one_owning : (n : ℕ) (o : Overlay) (pairs : List Pair) → AllPairs (λ p q. IsTrue (is_pair_before p q)) pairs → (owners others : ℕ → Option ℕ)
    → AreOverlaidOwners n o pairs owners → AreOverlaidOwners n o pairs others → AgreeOnRegions o owners others
one_owning n o pairs up owners others are are_too r region = by (region_pair n o r) refl
  where
    by : (x : Option Pair) → region_pair n o r ≡ x → owners r ≡ others r
    by None is = are.free r region is ∙ sym (are_too.free r region is)
    by (Some pair) is =
        let at = are.placed r pair region is in
        at.owned ∙ sym (owned_at n o pairs others are_too up r at.place pair region is at.listed)

module _ (a b : Members) (in_range : AllInRange (a ++ b)) (o : Overlay) (h : IsSnappedOverlay (uses_of (a ++ b)) (length (a ++ b)) o) where
  pub member_owners : (pairs : List Pair) (owners : ℕ → Option ℕ) → AreOverlaidOwners (length a) o pairs owners → AreMemberOwners o owners (length pairs)
  member_owners pairs owners are =
      let is_live = live (a ++ b) in_range o h in
      record {
        planar = is_live.planar;
        distinct = ascending_distinct o.edges h.overlay.live.ascending;
        regions = is_live.regions;
        below = λ r k region owned. (let at = place_of (length a) o pairs owners are r k region owned in slice_get_within pairs k at.0 at.1.0);
        outer_free = λ r k outer owned. none-some k (sym (are.free r (region_of o.edges far_point r (far_region o.edges r outer)) (outer_pair o is_live (length a) r outer)) ∙ owned);
      }
