-- The owners of a cleaning with gaps are members and none has the outer region; and a coverage is cleaned with gaps in one way.
use Rattle.std.proofs.Common.{◌≡◌, inl, inr, sym, ◌∙◌, ap, subst, ℕ, ◌<◌, List, length, arith}
use Rattle.std.specs.Prelude.{Option, Some}
use Rattle.std.proofs.lemmas.Option.{none-some}
use Rattle.cov_types.specs.Coverage.{Members, AllInRange}
use Rattle.cov_types.specs.Uses.{uses_of}
use Rattle.cov_types.proofs.AllUses.{uses-in_range}
use Rattle.plane.specs.Region.{far_point, IsOuterRegion}
use Rattle.arrangement.specs.Live.{IsLiveOverlay}
use Rattle.arrangement.specs.Overlay.{Overlay}
use Rattle.arrangement.proofs.OneOverlay.{one_snapped_overlay}
use Rattle.arrangement.proofs.SnappedPlanar.{snapped_planar}
use Rattle.region_owners.specs.Owner.{Rule, label_owner, owner_by}
use Rattle.region_owners.proofs.Owners.{owner_below}
use Rattle.sound_polygons.specs.Cleaned.{IsBuilt}
use Rattle.sound_polygons.proofs.OneCleaned.{one_built}
use Rattle.cleaned_laws.specs.Owning.{AreMemberOwners}
use Rattle.cleaned_laws.proofs.Built.{region_of}
use Rattle.cleaned_laws.proofs.Cleaned.{ascending_distinct, far_region, outer_label}
use Rattle.cleaned_laws.proofs.SnappedLive.{snapped_live}
use Rattle.gap_replay.specs.Cleaned.{IsCleanedWithGaps}
use Rattle.gap_replay.specs.Replay.{AreNarrowGaps, IsOwnerByReplay, AreOwnersByReplay}
use Rattle.gap_replay.proofs.Fillers.{candidate_below, one_owner}
use Rattle.gap_replay.proofs.GapCandidates.{one_gaps}

-- an owner by replay is a member
pub replay_owner_below : {State : Type 0} (rule : Rule State) (state : State) (o : Overlay) (gaps : List ℕ) (r i : ℕ) → IsOwnerByReplay rule state o gaps r (Some i) → i < o.members
replay_owner_below rule state o gaps r i (inl filled) = candidate_below o (label_owner rule state o) r _ i (sym filled.1)
replay_owner_below rule state o gaps r i (inr by_label) = owner_below rule state o 0 r i (inr ((λ n. (let wide = n.narrow.wide in omega arith)), by_label.1))

-- ---- owners that polygons can be built of

module _ {State : Type 0} (members : Members) (in_range : AllInRange members) (rule : Rule State) (state : State) (w : ℕ) (out : Members) (h : IsCleanedWithGaps members rule state w out) where
  abbrev o : Overlay
  o = h.overlay

  live : IsLiveOverlay h.overlay
  live = snapped_live members in_range h.overlay h.is_overlay

  outer_label_free : (r i : ℕ) → IsOuterRegion o.edges r → label_owner rule state o r ≡ Some i → ⊥
  outer_label_free r i outer is = none-some i (sym (ap (owner_by rule state o r) (outer_label o live r outer)) ∙ is)

  pub member_owners : AreMemberOwners h.overlay h.owners (length members)
  member_owners = record {
    planar = live.planar;
    distinct = ascending_distinct o.edges h.is_overlay.overlay.live.ascending;
    regions = live.regions;
    below = λ r i region owned. subst (λ n. i < n) h.is_overlay.overlay.count (replay_owner_below rule state o h.gaps r i (subst (IsOwnerByReplay rule state o h.gaps r) owned (h.are_owners r region)));
    outer_free = λ r i outer owned. elim (h.are_owners r (region_of o.edges far_point r (far_region o.edges r outer))) [
      | inl filled ↦ ((h.are_gaps.exact r).0 filled.0).gap.not_outer outer
      | inr by_label ↦ outer_label_free r i outer (sym by_label.1 ∙ owned)
    ];
  }

-- ---- one cleaning

-- what is built on an overlay with its narrow gaps
record IsReplayedOn {State : Type 0} (o : Overlay) (members : Members) (rule : Rule State) (state : State) (w : ℕ) (out : Members) : Type 0 where
  gaps : List ℕ
  are_gaps : AreNarrowGaps o w gaps
  owners : ℕ → Option ℕ
  are_owners : AreOwnersByReplay rule state o gaps owners
  built : IsBuilt o owners (length members) out

pub one_replay : {State : Type 0} (members : Members) → AllInRange members → (rule : Rule State) (state : State) (w : ℕ) (out other : Members)
    → IsCleanedWithGaps members rule state w out → IsCleanedWithGaps members rule state w other → out ≡ other
one_replay {State} members in_range rule state w out other h k =
    let uses_range = uses-in_range members in_range in
    let same : k.overlay ≡ h.overlay = one_snapped_overlay (uses_of members) uses_range (length members) k.overlay h.overlay k.is_overlay h.is_overlay in
    let there : IsReplayedOn h.overlay members rule state w other =
    subst (λ o. IsReplayedOn o members rule state w other) same (record { gaps = k.gaps; are_gaps = k.are_gaps; owners = k.owners; are_owners = k.are_owners; built = k.built }) in
    let gaps : there.gaps ≡ h.gaps = one_gaps h.overlay w there.gaps h.gaps there.are_gaps h.are_gaps in
    let owners : AreOwnersByReplay rule state h.overlay h.gaps there.owners = subst (λ gs. AreOwnersByReplay rule state h.overlay gs there.owners) gaps there.are_owners in
    let planar = snapped_planar (uses_of members) uses_range (length members) h.overlay h.is_overlay in
    one_built h.overlay planar h.is_overlay.overlay.numbered h.owners there.owners
    (λ r region. one_owner rule state h.overlay h.gaps r (h.owners r) (there.owners r) (h.are_owners r region) (owners r region))
    (length members) out other h.built there.built
