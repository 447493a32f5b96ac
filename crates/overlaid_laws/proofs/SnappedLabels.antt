-- In the overlay of a coverage's snapped members the label of a region is that of its points, and outer points have none.
use mathlib.Core.List.{[]}
use Rattle.std.proofs.Common.{◌≡◌, sym, ◌∙◌, ap, subst, ℕ, ◌<◌, ◌%◌, ◌==◌, ◌&&◌, true, List, filter, length, arith}
use Rattle.std.specs.Prelude.{Contains, count_by}
use Rattle.std.proofs.lemmas.Bool.{and_parts}
use Rattle.std.proofs.lemmas.Bool.Decides.{Decides-eqb}
use Rattle.std.proofs.lemmas.List.Elements.{All-contains}
use Rattle.cov_types.specs.declared.edge_use.EdgeUse.{EdgeUse}
use Rattle.cov_types.specs.declared.seg.Seg.{Seg}
use Rattle.cov_types.specs.Coverage.{Members, AllInRange}
use Rattle.cov_types.specs.Uses.{uses_of}
use Rattle.cov_types.proofs.AllUses.{uses-in_range}
use Rattle.plane.specs.Joined.{IsOff}
use Rattle.plane.specs.Label.{label_at, numbers_below}
use Rattle.plane.specs.Parity.{member_holds}
use Rattle.plane.specs.Point.{Point}
use Rattle.plane.specs.Ray.{is_over}
use Rattle.plane.specs.Region.{far_point, IsOuter, IsRegionOf}
use Rattle.crossing_laws.proofs.Coverages.{swept_in_range}
use Rattle.crossing_laws.proofs.Sums.{label-joined}
use Rattle.arrangement.specs.declared.odd_use.OddUse.{OddUse}
use Rattle.arrangement.specs.Live.{IsLiveOverlay}
use Rattle.arrangement.specs.Noding.{segments, IsNoded}
use Rattle.arrangement.specs.Overlay.{Overlay, IsSnappedOverlay, label_of}
use Rattle.arrangement.proofs.LiveOverlays.{label_is}
use Rattle.arrangement.proofs.OddUses.{odd_used, some_passes, live_uses_law}
use Rattle.arrangement.proofs.OneNoding.{same_snapped}
use Rattle.cleaned_laws.proofs.Cleaned.{far_label}
use Rattle.cleaned_laws.proofs.SnappedLive.{snapped_live}

module _ (members : Members) (in_range : AllInRange members) (o : Overlay) (h : IsSnappedOverlay (uses_of members) (length members) o) where
  pub live : IsLiveOverlay o
  live = snapped_live members in_range o h

  module _ (edges : List Seg) (odd : List OddUse) (noded : IsNoded (uses_of members) edges odd) where
    same : h.snapped ≡ noded.snapped
    same = same_snapped (uses_of members) h.snapped noded.snapped (uses-in_range members in_range) h.are_snapped noded.are_snapped

    -- the live edges are noded edges
    among : (e : Seg) → Contains o.edges e → Contains edges e
    among e has =
        let is_odd = (h.overlay.live.exact e).0 has in
        (noded.are_edges.exact e).1 (subst (λ us. Contains (segments us) e) same (odd_used h.snapped is_odd.0 e is_odd.1))

    pub off_live : (p : Point) → IsOff edges p → IsOff o.edges p
    off_live p off = λ e has. off e (among e has)

    -- the live uses hold p where the snapped ones do
    held_alike : (p : Point) (m : ℕ) → member_holds o.uses m p ≡ member_holds noded.snapped m p
    held_alike p m =
        ap (λ us. member_holds us m p) h.overlay.by_odd
        ∙ live_uses_law h.snapped o.edges h.overlay.odd h.overlay.live m p
        ∙ ap (λ us. member_holds us m p) same

    same_label : (p : Point) → label_at o.uses o.members p ≡ label_at noded.snapped (length members) p
    same_label p = λ i. filter (λ m. held_alike p m i) (numbers_below (h.overlay.count i))

    pub region_label : (p : Point) (r : ℕ) → IsRegionOf o.edges p r → label_of o r ≡ label_at noded.snapped (length members) p
    region_label p r own = label_is o live p r own ∙ same_label p

    pub outer_empty : (p : Point) → IsOuter o.edges p → label_at noded.snapped (length members) p ≡ []
    outer_empty p outer =
        sym (same_label p)
        ∙ label-joined o.uses o.members o.edges live.listed (swept_in_range o.edges live.planar.in_range) live.even p far_point outer
        ∙ far_label o live

    -- a snapped member that holds a point is one of so many
    pub holder_below : (p : Point) (m : ℕ) → member_holds noded.snapped m p ≡ true → m < length members
    holder_below p m holds =
        let passes = λ (u : EdgeUse). (u.member == m) && is_over u.seg p in
        let odd_count = (Decides-eqb (count_by passes o.uses % 2) 1).0 (held_alike p m ∙ holds) in
        let u = some_passes passes o.uses odd_count in
        let its = (Decides-eqb (u.0).member m).0 (and_parts _ _ u.1.1).0 in
        let below = All-contains (λ v. v.member < o.members) o.uses u.0 live.below u.1.0 in
        let count = h.overlay.count in
        omega (arith, its, below, count)
