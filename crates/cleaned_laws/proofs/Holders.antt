-- What is built of owners holds each point off the edges by the owner of its region.
use Rattle.std.proofs.Common.{◌≡◌, ◌⊎◌, inl, inr, sym, ◌∙◌, ℕ, true, List}
use Rattle.std.specs.Prelude.{All, Contains, Option, get_or}
use Rattle.std.proofs.lemmas.Bool.{false≢true}
use Rattle.std.proofs.lemmas.List.Elements.{All-contains, Contains-get_or}
use Rattle.std.proofs.lemmas.Option.{none-some}
use Rattle.cov_types.specs.declared.edge_use.EdgeUse.{EdgeUse}
use Rattle.cov_types.specs.declared.seg.Seg.{Seg}
use Rattle.cov_types.specs.Coverage.{Members}
use Rattle.cov_types.specs.Range.{IsSegInRange}
use Rattle.cov_types.specs.Uses.{uses_of}
use Rattle.plane.specs.Joined.{IsOff, Joined}
use Rattle.plane.specs.Parity.{member_holds}
use Rattle.plane.specs.Point.{Point}
use Rattle.plane.specs.Region.{far_point, IsOuter, IsRegionOf}
use Rattle.plane.specs.Segment.{upper}
use Rattle.crossing_laws.proofs.Coverages.{swept_in_range, uses_even}
use Rattle.crossing_laws.proofs.Located.{region-joined}
use Rattle.crossing_laws.proofs.Sums.{member_holds-joined}
use Rattle.crossing_laws.proofs.Ways.{joined-sym}
use Rattle.region_laws.proofs.Edge.{below_joined, none_below_outer}
use Rattle.region_laws.proofs.Nearest.{nearest_or_none}
use Rattle.region_laws.proofs.Numbered.{index, index_is}
use Rattle.sector_laws.specs.Sector.{HalfEdge}
use Rattle.sector_laws.proofs.Numbers.{half_edge_side}
use Rattle.arrangement.specs.Noding.{segments}
use Rattle.arrangement.specs.Overlay.{Overlay, region_at}
use Rattle.arrangement.proofs.Labels.{mapped, far_free}
use Rattle.sound_polygons.specs.Cleaned.{IsBuilt}
use Rattle.sound_polygons.specs.Holding.{HoldsByOwner}
use Rattle.cleaned_laws.specs.Owning.{AreMemberOwners}
use Rattle.cleaned_laws.proofs.Built.{held_is, in_edges}

module _ (o : Overlay) (owners : ℕ → Option ℕ) (members : ℕ) (are : AreMemberOwners o owners members) where
  -- the region above an edge
  pub upper_region : (e : Seg) → Contains o.edges e → (r : ℕ) × IsRegionOf o.edges (upper e) r
  upper_region e has =
      let h : HalfEdge = record { edge = e; forwards = true } in
      let n = index o.edges h in
      (region_at o n, are.regions.each n (upper e) (half_edge_side o.edges n h (index_is o.edges h has)))

  -- a point off the edges has a region, or is outer
  pub region_or_outer : (p : Point) → IsOff o.edges p → ((r : ℕ) × IsRegionOf o.edges p r) ⊎ IsOuter o.edges p
  region_or_outer p off = elim (nearest_or_none o.edges are.planar p) [
    | inl found ↦ (
        let there = upper_region found.0 found.1.below.among in
        let way = below_joined o.edges are.planar p off found.0 found.1 in
        inl (there.0, region-joined o.edges (upper found.0) p there.0 (joined-sym o.edges p (upper found.0) way) there.1)
        )
    | inr none ↦ inr (none_below_outer o.edges are.planar p off none)
  ]

  module _ (out : Members) (built : IsBuilt o owners members out) where
    pub segs_in_range : All IsSegInRange (segments (uses_of out))
    segs_in_range = λ k d within. (
        mapped (λ (u : EdgeUse). u.seg) IsSegInRange (uses_of out) (λ u has. All-contains IsSegInRange o.edges u.seg are.planar.in_range (in_edges o owners members are out built u has))
        (get_or (segments (uses_of out)) k d) (Contains-get_or (segments (uses_of out)) k d within))

    -- points that are joined round some edges with all segments are held alike, and outer ones by none
    pub held_alike : (edges : List Seg) → All IsSegInRange edges → ((u : EdgeUse) → Contains (uses_of out) u → Contains edges u.seg) → (m : ℕ) (p q : Point) → Joined edges p q
        → member_holds (uses_of out) m p ≡ member_holds (uses_of out) m q
    held_alike edges range among m p q j = member_holds-joined (uses_of out) m edges among (swept_in_range edges range) (uses_even out m) p q j

    pub outer_free : (edges : List Seg) → All IsSegInRange edges → ((u : EdgeUse) → Contains (uses_of out) u → Contains edges u.seg) → (m : ℕ) (p : Point) → IsOuter edges p
        → member_holds (uses_of out) m p ≡ true → ⊥
    outer_free edges range among m p outer holds =
        false≢true (sym (held_alike edges range among m p far_point outer ∙ far_free (uses_of out) segs_in_range m) ∙ holds)

    pub built_holds : HoldsByOwner o.edges o owners out
    built_holds = record {
      within = λ p off r own m. held_is o owners members are out built p r own m;
      without = λ p off nowhere m. (
        (λ holds. elim (region_or_outer p off) [
          | inl there ↦ absurd (nowhere there.0 there.1)
          | inr outer ↦ absurd (outer_free o.edges are.planar.in_range (in_edges o owners members are out built) m p outer holds)
        ]),
        (λ is. absurd (none-some m is)),
      );
    }
