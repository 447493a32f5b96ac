-- The owners of a cleaned coverage are members and none has the outer region, so the coverage is valid and holds each point by its owner.
use mathlib.Core.List.{[], ◌∷◌}
use Rattle.std.proofs.Common.{◌≡◌, inl, inr, refl, sym, ◌∙◌, ap, subst, ℕ, ◌<◌, Bool, false, cond, List, filter, length}
use Rattle.std.specs.Prelude.{All, Contains, Some, get_or}
use Rattle.std.proofs.lemmas.Bool.{true≢false}
use Rattle.std.proofs.lemmas.List.Elements.{All-contains, Contains-get_or}
use Rattle.std.proofs.lemmas.Option.{none-some}
use Rattle.cov_types.specs.declared.edge_use.EdgeUse.{EdgeUse}
use Rattle.cov_types.specs.declared.seg.Seg.{Seg}
use Rattle.cov_types.specs.Coverage.{Members, AllInRange}
use Rattle.cov_types.specs.Range.{IsSegInRange}
use Rattle.cov_types.specs.Seg.{is_seg_before}
use Rattle.cov_types.specs.Uses.{uses_of}
use Rattle.cov_types.proofs.AllUses.{uses-in_range}
use Rattle.cov_types.proofs.SegOrder.{is_seg_before-irrefl}
use Rattle.plane.specs.Joined.{IsOff}
use Rattle.plane.specs.Label.{label_at, numbers_below}
use Rattle.plane.specs.Parity.{member_holds}
use Rattle.plane.specs.Point.{Point}
use Rattle.plane.specs.Region.{far_point, IsOuterRegion, IsRegionOf}
use Rattle.plane.specs.Validity.{IsValid}
use Rattle.crossing_laws.proofs.Located.{region-joined}
use Rattle.crossing_laws.proofs.Ways.{joined-sym}
use Rattle.sector_laws.specs.Sector.{AreDistinct}
use Rattle.arrangement.specs.declared.odd_use.OddUse.{OddUse}
use Rattle.arrangement.specs.Live.{IsLiveOverlay}
use Rattle.arrangement.specs.Noding.{segments, IsAscending, IsNoded}
use Rattle.arrangement.specs.Overlay.{Overlay, label_of}
use Rattle.arrangement.proofs.Labels.{mapped, far_free}
use Rattle.arrangement.proofs.LiveOverlays.{label_is}
use Rattle.arrangement.proofs.OddUses.{odd_used}
use Rattle.arrangement.proofs.OneNoding.{same_snapped}
use Rattle.region_owners.specs.Owner.{Rule, IsOwner, owner_by}
use Rattle.region_owners.proofs.Owners.{owner_below}
use Rattle.sound_polygons.specs.Cleaned.{IsCleaned}
use Rattle.sound_polygons.specs.Holding.{HoldsByOwner}
use Rattle.cleaned_laws.specs.Owning.{AreMemberOwners}
use Rattle.cleaned_laws.proofs.Holders.{built_holds}
use Rattle.cleaned_laws.proofs.SnappedLive.{snapped_live}
use Rattle.cleaned_laws.proofs.Valid.{built_valid}

pub ascending_distinct : (edges : List Seg) → IsAscending edges → AreDistinct edges
ascending_distinct edges up i j d before within same =
    true≢false (sym (up i j d before within) ∙ ap (λ (s : Seg). is_seg_before s (get_or edges j d)) same ∙ is_seg_before-irrefl (get_or edges j d))

-- ---- the outer region has no label

none_pass : (p : ℕ → Bool) (xs : List ℕ) → ((x : ℕ) → p x ≡ false) → filter p xs ≡ []
none_pass p [] none = refl
none_pass p (x ∷ xs) none = ap (λ b. cond b (x ∷ filter p xs) (filter p xs)) (none x) ∙ none_pass p xs none

-- the point past the range is one of the outer region
pub far_region : (edges : List Seg) (r : ℕ) → IsOuterRegion edges r → IsRegionOf edges far_point r
far_region edges r outer = record {
  joined = record { at = outer.outer.at; side = outer.outer.side; joined = joined-sym edges outer.outer.at far_point outer.outer.outer };
  least = λ n other. outer.least n (record { at = other.at; side = other.side; outer = joined-sym edges far_point other.at other.joined });
}

pub far_label : (o : Overlay) → IsLiveOverlay o → label_at o.uses o.members far_point ≡ []
far_label o live = none_pass (λ m. member_holds o.uses m far_point) (numbers_below o.members) (far_free o.uses range)
  where
    range : All IsSegInRange (segments o.uses)
    range = λ k d within. (
        mapped (λ (u : EdgeUse). u.seg) IsSegInRange o.uses (λ u has. All-contains IsSegInRange o.edges u.seg live.planar.in_range (live.listed u has))
        (get_or (segments o.uses) k d) (Contains-get_or (segments o.uses) k d within))

pub outer_label : (o : Overlay) → IsLiveOverlay o → (r : ℕ) → IsOuterRegion o.edges r → label_of o r ≡ []
outer_label o live r outer = label_is o live far_point r (far_region o.edges r outer) ∙ far_label o live

-- ---- the owners of a cleaning

module _ {State : Type 0} (members : Members) (in_range : AllInRange members) (rule : Rule State) (state : State) (w : ℕ) (out : Members) (h : IsCleaned members rule state w out) where
  abbrev pub o : Overlay
  o = h.overlay

  pub live : IsLiveOverlay h.overlay
  live = snapped_live members in_range h.overlay h.is_overlay

  outer_free : (r i : ℕ) → IsOuterRegion o.edges r → owner_by rule state o r (label_of o r) ≡ Some i → ⊥
  outer_free r i outer is = none-some i (sym (ap (owner_by rule state o r) (outer_label o live r outer)) ∙ is)

  pub member_owners : AreMemberOwners h.overlay h.owners (length members)
  member_owners = record {
    planar = live.planar;
    distinct = ascending_distinct o.edges h.is_overlay.overlay.live.ascending;
    regions = live.regions;
    below = λ r i region owned. subst (λ n. i < n) h.is_overlay.overlay.count (owner_below rule state o w r i (subst (IsOwner rule state o w r) owned (h.are_owners r region)));
    outer_free = λ r i outer owned. elim (h.are_owners r (record { at = outer.outer.at; side = outer.outer.side; own = outer_own r outer })) [
      | inl narrow ↦ narrow.0.gap.not_outer outer
      | inr label ↦ outer_free r i outer (sym label.1 ∙ owned)
    ];
  }
    where
      outer_own : (r : ℕ) (outer : IsOuterRegion o.edges r) → IsRegionOf o.edges outer.outer.at r
      outer_own r outer = region-joined o.edges far_point outer.outer.at r (joined-sym o.edges outer.outer.at far_point outer.outer.outer) (far_region o.edges r outer)

  pub cleaned_valid : IsValid (uses_of out)
  cleaned_valid = built_valid h.overlay h.owners (length members) member_owners out h.built

  module _ (edges : List Seg) (odd : List OddUse) (noded : IsNoded (uses_of members) edges odd) where
    -- the live edges are noded edges
    among : (e : Seg) → Contains o.edges e → Contains edges e
    among e has =
        let is_odd = (h.is_overlay.overlay.live.exact e).0 has in
        let same = same_snapped (uses_of members) h.is_overlay.snapped noded.snapped (uses-in_range members in_range) h.is_overlay.are_snapped noded.are_snapped in
        (noded.are_edges.exact e).1 (subst (λ us. Contains (segments us) e) same (odd_used h.is_overlay.snapped is_odd.0 e is_odd.1))

    pub off_live : (p : Point) → IsOff edges p → IsOff h.overlay.edges p
    off_live p off = λ e has. off e (among e has)

    pub cleaned_holds : HoldsByOwner edges h.overlay h.owners out
    cleaned_holds =
        let holds = built_holds h.overlay h.owners (length members) member_owners out h.built in
        record { within = λ p off. holds.within p (off_live p off); without = λ p off. holds.without p (off_live p off) }
