-- In the cleaned coverage a point is held as its label tells.
use mathlib.Core.List.{[], ◌∷◌}
use Rattle.std.proofs.Common.{◌≡◌, inl, inr, refl, sym, ◌∙◌, ap, subst, ℕ, ◌<◌, ◌≤◌, List, filter, length, arith}
use Rattle.std.specs.Prelude.{Contains, Option, Some, None}
use Rattle.std.proofs.lemmas.Option.{none-some}
use Rattle.cov_types.specs.declared.seg.Seg.{Seg}
use Rattle.cov_types.specs.Coverage.{Members, AllInRange}
use Rattle.cov_types.specs.Uses.{uses_of}
use Rattle.cov_types.proofs.AllUses.{uses-in_range}
use Rattle.plane.specs.Joined.{IsOff}
use Rattle.plane.specs.Label.{label_at, numbers_below}
use Rattle.plane.specs.Parity.{member_holds}
use Rattle.plane.specs.Point.{Point}
use Rattle.plane.specs.Region.{far_point, IsOuter, IsRegionOf}
use Rattle.crossing_laws.proofs.Coverages.{swept_in_range}
use Rattle.crossing_laws.proofs.Sums.{label-joined}
use Rattle.arrangement.specs.declared.odd_use.OddUse.{OddUse}
use Rattle.arrangement.specs.Live.{IsLiveOverlay}
use Rattle.arrangement.specs.Noding.{IsNoded}
use Rattle.arrangement.specs.Overlay.{Overlay, label_of}
use Rattle.arrangement.proofs.LiveOverlays.{label_is}
use Rattle.arrangement.proofs.OddUses.{live_uses_law}
use Rattle.arrangement.proofs.OneNoding.{same_snapped}
use Rattle.region_owners.specs.Owner.{Rule, IsLawful, IsNarrowGap, owner_by, picked_owner}
use Rattle.region_owners.proofs.Held.{held_owner}
use Rattle.region_owners.proofs.Neighbours.{gap_neighbour}
use Rattle.sound_polygons.specs.Cleaned.{IsCleaned}
use Rattle.sound_polygons.specs.Holding.{IsHeldBy}
use Rattle.cleaned_laws.specs.HeldByLabel.{IsHeldByPick, IsHeldByNeighbour, IsHeldByLabel}
use Rattle.cleaned_laws.proofs.Built.{in_edges, region_of}
use Rattle.cleaned_laws.proofs.Cleaned.{far_label, live, member_owners, off_live, cleaned_holds}
use Rattle.cleaned_laws.proofs.Holders.{outer_free, region_or_outer}

module _ {State : Type 0} (members : Members) (in_range : AllInRange members) (rule : Rule State) (law : IsLawful rule) (state : State) (w : ℕ) (out : Members)
    (h : IsCleaned members rule state w out) (edges : List Seg) (odd : List OddUse) (noded : IsNoded (uses_of members) edges odd) (p : Point) (off : IsOff edges p) where
  abbrev o : Overlay
  o = h.overlay

  abbrev label : List ℕ
  label = label_at noded.snapped (length members) p

  is_live : IsLiveOverlay o
  is_live = live members in_range rule state w out h

  -- the live uses hold p where the snapped ones do
  held_alike : (m : ℕ) → member_holds o.uses m p ≡ member_holds noded.snapped m p
  held_alike m =
      let overlay = h.is_overlay in
      ap (λ us. member_holds us m p) overlay.overlay.by_odd
      ∙ live_uses_law overlay.snapped o.edges overlay.overlay.odd overlay.overlay.live m p
      ∙ ap (λ us. member_holds us m p) (same_snapped (uses_of members) overlay.snapped noded.snapped (uses-in_range members in_range) overlay.are_snapped noded.are_snapped)

  same_label : label_at o.uses o.members p ≡ label
  same_label = λ i. filter (λ m. held_alike m i) (numbers_below (h.is_overlay.overlay.count i))

  region_label : (r : ℕ) → IsRegionOf o.edges p r → label_of o r ≡ label
  region_label r own = label_is o is_live p r own ∙ same_label

  outer_empty : IsOuter o.edges p → label ≡ []
  outer_empty outer =
      sym same_label
      ∙ label-joined o.uses o.members o.edges is_live.listed (swept_in_range o.edges is_live.planar.in_range) is_live.even p far_point outer
      ∙ far_label o is_live

  has_region : 0 < length label → (r : ℕ) × IsRegionOf o.edges p r
  has_region some = elim (region_or_outer o h.owners (length members) (member_owners members in_range rule state w out h) p (off_live members in_range rule state w out h edges odd noded p off)) [
    | inl there ↦ there
    | inr outer ↦ absurd (let none = ap length (outer_empty outer) in omega (arith, none, some))
  ]

  held_by : (r : ℕ) → IsRegionOf o.edges p r → (owner : Option ℕ) → h.owners r ≡ owner → IsHeldBy (uses_of out) owner p
  held_by r own owner is = subst (λ x. IsHeldBy (uses_of out) x p) is ((cleaned_holds members in_range rule state w out h edges odd noded).within p off r own)

  -- out of narrow gaps the owner is that of the label
  label_owned : (r : ℕ) → IsRegionOf o.edges p r → ¬ IsNarrowGap o r w → h.owners r ≡ owner_by rule state o r label
  label_owned r own wide = elim (h.are_owners r (region_of o.edges p r own)) [
    | inl narrow ↦ absurd (wide narrow.0)
    | inr by_label ↦ by_label.1 ∙ ap (owner_by rule state o r) (region_label r own)
  ]

  not_narrow : (r : ℕ) → IsRegionOf o.edges p r → 0 < length label → ¬ IsNarrowGap o r w
  not_narrow r own some narrow = let none = ap length (sym (region_label r own) ∙ narrow.gap.empty) in omega (arith, none, some)

  -- ---- the four cases

  single : (i : ℕ) → label ≡ i ∷ [] → IsHeldBy (uses_of out) (Some i) p
  single i is =
      let some : 0 < length label = let one = ap length is in omega (arith, one) in
      let r = has_region some in
      held_by r.0 r.1 (Some i) (label_owned r.0 r.1 (not_narrow r.0 r.1 some) ∙ ap (owner_by rule state o r.0) is)

  by_pick : (r : ℕ) (xs : List ℕ) → 2 ≤ length xs → owner_by rule state o r xs ≡ picked_owner rule state o r
  by_pick r [] more = absurd (omega (arith, more))
  by_pick r (i ∷ []) more = absurd (omega (arith, more))
  by_pick r (i ∷ j ∷ xs) more = refl

  several : 2 ≤ length label → IsHeldByPick rule state o out label p
  several more =
      let some : 0 < length label = omega (arith, more) in
      let r = has_region some in
      let same = region_label r.0 r.1 in
      let count = ap length same in
      let k = held_owner rule state o r.0 law (omega (arith, count, some)) in
      let of_label : owner_by rule state o r.0 label ≡ Some k.0 = ap (owner_by rule state o r.0) (sym same) ∙ k.1.0 in
      record {
        region = r.0;
        within = r.1;
        member = k.0;
        listed = subst (λ xs. Contains xs k.0) same k.1.1;
        picked = sym (by_pick r.0 label more) ∙ of_label;
        held = held_by r.0 r.1 (Some k.0) (label_owned r.0 r.1 (not_narrow r.0 r.1 some) ∙ of_label);
      }

  narrow : (r : ℕ) → IsRegionOf o.edges p r → IsNarrowGap o r w → IsHeldByNeighbour rule state o out r p
  narrow r own is =
      let k = gap_neighbour rule state o r is_live law is.gap in
      record {
        member = k.0;
        neighbour = k.1.neighbour;
        held = held_by r own (Some k.0) (elim (h.are_owners r (region_of o.edges p r own)) [
          | inl owned ↦ owned.1 ∙ k.1.neighbour
          | inr by_label ↦ absurd (by_label.0 is)
        ]);
      }

  empty : label ≡ [] → ((r : ℕ) → IsRegionOf o.edges p r → ¬ IsNarrowGap o r w) → IsHeldBy (uses_of out) None p
  empty none wide = elim (region_or_outer o h.owners (length members) (member_owners members in_range rule state w out h) p (off_live members in_range rule state w out h edges odd noded p off)) [
    | inl there ↦ held_by there.0 there.1 None (label_owned there.0 there.1 (wide there.0 there.1) ∙ ap (owner_by rule state o there.0) none)
    | inr outer ↦ (λ m. (
        let are = member_owners members in_range rule state w out h in
        (λ holds. absurd (outer_free o h.owners (length members) are out h.built o.edges are.planar.in_range (in_edges o h.owners (length members) are out h.built) m p outer holds), λ is. absurd (none-some m is))))
  ]

  pub held_by_label : IsHeldByLabel rule state o w out label p
  held_by_label = record { single = single; several = several; narrow = narrow; empty = empty }
