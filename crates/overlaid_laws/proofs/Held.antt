-- The overlay of two coverages is valid, and holds each point by the pair of the members that hold it.
use Rattle.std.proofs.Common.{◌≡◌, ◌⊎◌, inl, inr, sym, ◌∙◌, ap, ℕ, ◌<◌, true, List, ◌++◌, length}
use Rattle.std.specs.Prelude.{Contains, Some, slice_get}
use Rattle.std.proofs.lemmas.Option.{none-some, same_Some}
use Rattle.cov_types.specs.declared.seg.Seg.{Seg}
use Rattle.cov_types.specs.Coverage.{Members, AllInRange}
use Rattle.cov_types.specs.Uses.{uses_of}
use Rattle.plane.specs.Joined.{IsOff}
use Rattle.plane.specs.Label.{label_at}
use Rattle.plane.specs.Parity.{member_holds}
use Rattle.plane.specs.Point.{Point}
use Rattle.plane.specs.Region.{IsOuter, IsRegionOf}
use Rattle.plane.specs.Validity.{IsValid}
use Rattle.arrangement.specs.declared.odd_use.OddUse.{OddUse}
use Rattle.arrangement.specs.Noding.{IsNoded}
use Rattle.arrangement.specs.Overlay.{Overlay, IsRegion}
use Rattle.cleaned_laws.specs.Owning.{AreMemberOwners}
use Rattle.cleaned_laws.proofs.Built.{held_is, in_edges, region_of}
use Rattle.cleaned_laws.proofs.Holders.{outer_free, region_or_outer}
use Rattle.cleaned_laws.proofs.Valid.{built_valid}
use Rattle.overlaid_laws.specs.declared.pair.Pair.{Pair}
use Rattle.overlaid_laws.specs.Overlaid.{IsOverlaid, IsPairAt, HoldsByPair}
use Rattle.overlaid_laws.specs.Pairs.{pair_of, region_pair}
use Rattle.overlaid_laws.proofs.LeastPairs.{pair_is, is_pair}
use Rattle.overlaid_laws.proofs.PairOwners.{place_of, owned_at, member_owners}
use Rattle.overlaid_laws.proofs.SnappedLabels.{off_live, region_label, outer_empty, holder_below}

module _ (a b : Members) (in_range : AllInRange (a ++ b)) (pairs : List Pair) (out : Members) (h : IsOverlaid a b pairs out) where
  abbrev o : Overlay
  o = h.overlay

  are : AreMemberOwners h.overlay h.owners (length pairs)
  are = member_owners a b in_range h.overlay h.is_overlay pairs h.owners h.are_owners

  pub overlaid_valid : IsValid (uses_of out)
  overlaid_valid = built_valid h.overlay h.owners (length pairs) are out h.built

  module _ (edges : List Seg) (odd : List OddUse) (noded : IsNoded (uses_of (a ++ b)) edges odd) (p : Point) (off : IsOff edges p) where
    abbrev Here : Pair → Type 0
    Here pair = IsPairAt (length a) noded.snapped pair p

    -- the point has a region, or is outer
    where_is : ((r : ℕ) × IsRegionOf o.edges p r) ⊎ IsOuter o.edges p
    where_is = region_or_outer o h.owners (length pairs) are p (off_live (a ++ b) in_range o h.is_overlay edges odd noded p off)

    not_outer_held : (k : ℕ) → IsOuter o.edges p → member_holds (uses_of out) k p ≡ true → ⊥
    not_outer_held k outer holds =
        outer_free o h.owners (length pairs) are out h.built o.edges are.planar.in_range (in_edges o h.owners (length pairs) are out h.built) k p outer holds

    below : (m : ℕ) → member_holds noded.snapped m p ≡ true → m < length (a ++ b)
    below m holds = holder_below (a ++ b) in_range o h.is_overlay edges odd noded p m holds

    -- the pair at a point is that of its region
    pair_here : (r : ℕ) → IsRegionOf o.edges p r → (pair : Pair) → region_pair (length a) o r ≡ Some pair → Here pair
    pair_here r own pair is =
        pair_is (length a) (λ m. member_holds noded.snapped m p) (length (a ++ b)) below pair
        (sym (ap (pair_of (length a)) (region_label (a ++ b) in_range o h.is_overlay edges odd noded p r own)) ∙ is)

    of_label : (pair : Pair) → Here pair → pair_of (length a) (label_at noded.snapped (length (a ++ b)) p) ≡ Some pair
    of_label pair here = is_pair (length a) (λ m. member_holds noded.snapped m p) (length (a ++ b)) below pair here

    here_pair : (r : ℕ) → IsRegionOf o.edges p r → (pair : Pair) → Here pair → region_pair (length a) o r ≡ Some pair
    here_pair r own pair here = ap (pair_of (length a)) (region_label (a ++ b) in_range o h.is_overlay edges odd noded p r own) ∙ of_label pair here

    none_outer : (pair : Pair) → IsOuter o.edges p → Here pair → ⊥
    none_outer pair outer here = none-some pair (sym (ap (pair_of (length a)) (outer_empty (a ++ b) in_range o h.is_overlay edges odd noded p outer)) ∙ of_label pair here)

    region : (r : ℕ) → IsRegionOf o.edges p r → IsRegion o.edges r
    region r own = region_of o.edges p r own

    owned : (k r : ℕ) → IsRegionOf o.edges p r → member_holds (uses_of out) k p ≡ true → h.owners r ≡ Some k
    owned k r own holds = (held_is o h.owners (length pairs) are out h.built p r own k).0 holds

    held_here : (k : ℕ) (pair : Pair) → slice_get pairs k ≡ Some pair → member_holds (uses_of out) k p ≡ true → Here pair
    held_here k pair listed holds = elim where_is [
      | inl there ↦ (
          let at = place_of (length a) o pairs h.owners h.are_owners there.0 k (region there.0 there.1) (owned k there.0 there.1 holds) in
          let its = same_Some at.0 pair (sym at.1.0 ∙ listed) in
          pair_here there.0 there.1 pair (at.1.1 ∙ ap Some its)
          )
      | inr outer ↦ absurd (not_outer_held k outer holds)
    ]

    here_held : (k : ℕ) (pair : Pair) → slice_get pairs k ≡ Some pair → Here pair → member_holds (uses_of out) k p ≡ true
    here_held k pair listed here = elim where_is [
      | inl there ↦ (held_is o h.owners (length pairs) are out h.built p there.0 there.1 k).1 (
          owned_at (length a) o pairs h.owners h.are_owners h.are_pairs.ascending there.0 k pair (region there.0 there.1) (here_pair there.0 there.1 pair here) listed)
      | inr outer ↦ absurd (none_outer pair outer here)
    ]

    one : (j k : ℕ) → member_holds (uses_of out) j p ≡ true → member_holds (uses_of out) k p ≡ true → j ≡ k
    one j k holds_j holds_k = elim where_is [
      | inl there ↦ same_Some j k (sym (owned j there.0 there.1 holds_j) ∙ owned k there.0 there.1 holds_k)
      | inr outer ↦ absurd (not_outer_held j outer holds_j)
    ]

    listed : (pair : Pair) → Here pair → Contains pairs pair
    listed pair here = elim where_is [
      | inl there ↦ (h.are_pairs.exact pair).1 (record { region = there.0; is_region = region there.0 there.1; has = here_pair there.0 there.1 pair here })
      | inr outer ↦ absurd (none_outer pair outer here)
    ]

    within : (k : ℕ) → member_holds (uses_of out) k p ≡ true → k < length pairs
    within k holds = elim where_is [
      | inl there ↦ are.below there.0 k (region there.0 there.1) (owned k there.0 there.1 holds)
      | inr outer ↦ absurd (not_outer_held k outer holds)
    ]

  pub overlaid_holds : (edges : List Seg) (odd : List OddUse) (noded : IsNoded (uses_of (a ++ b)) edges odd) → HoldsByPair (length a) edges noded.snapped pairs out
  overlaid_holds edges odd noded = record {
    exact = λ p off k pair is. (held_here edges odd noded p off k pair is, here_held edges odd noded p off k pair is);
    one = one edges odd noded;
    listed = listed edges odd noded;
    within = within edges odd noded;
  }
