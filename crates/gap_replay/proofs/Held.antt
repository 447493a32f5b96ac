-- The coverage that is cleaned with gaps is valid, and holds each point by the owner of its region, as its label tells.
use mathlib.Core.List.{[], ◌∷◌}
use Rattle.std.proofs.Common.{◌≡◌, ◌⊎◌, inl, inr, refl, sym, ◌∙◌, ap, subst, ℕ, ◌<◌, ◌≤◌, List, length, arith}
use Rattle.std.specs.Prelude.{Contains, Option, Some, None}
use Rattle.std.proofs.lemmas.Option.{none-some}
use Rattle.cov_types.specs.declared.seg.Seg.{Seg}
use Rattle.cov_types.specs.Coverage.{Members, AllInRange}
use Rattle.cov_types.specs.Uses.{uses_of}
use Rattle.plane.specs.Joined.{IsOff}
use Rattle.plane.specs.Label.{label_at}
use Rattle.plane.specs.Point.{Point}
use Rattle.plane.specs.Region.{IsOuter, IsRegionOf}
use Rattle.plane.specs.Validity.{IsValid}
use Rattle.arrangement.specs.declared.odd_use.OddUse.{OddUse}
use Rattle.arrangement.specs.Noding.{IsNoded}
use Rattle.arrangement.specs.Overlay.{Overlay, label_of}
use Rattle.region_owners.specs.Owner.{Rule, IsLawful, IsNarrowGap, owner_by, picked_owner}
use Rattle.region_owners.proofs.Held.{held_owner}
use Rattle.sound_polygons.specs.Holding.{IsHeldBy, HoldsByOwner}
use Rattle.cleaned_laws.specs.HeldByLabel.{IsHeldByPick}
use Rattle.cleaned_laws.specs.Owning.{AreMemberOwners}
use Rattle.cleaned_laws.proofs.Built.{in_edges, region_of}
use Rattle.cleaned_laws.proofs.Holders.{built_holds, outer_free, region_or_outer}
use Rattle.cleaned_laws.proofs.Valid.{built_valid}
use Rattle.overlaid_laws.proofs.SnappedLabels.{live, off_live, outer_empty, region_label}
use Rattle.gap_replay.specs.Cleaned.{IsCleanedWithGaps}
use Rattle.gap_replay.specs.HeldByReplay.{IsHeldByFiller, IsHeldByReplay}
use Rattle.gap_replay.proofs.Fillers.{gap_filler}
use Rattle.gap_replay.proofs.ReplayOwners.{member_owners}

module _ {State : Type 0} (members : Members) (in_range : AllInRange members) (rule : Rule State) (state : State) (w : ℕ) (out : Members) (h : IsCleanedWithGaps members rule state w out) where
  abbrev o : Overlay
  o = h.overlay

  are : AreMemberOwners h.overlay h.owners (length members)
  are = member_owners members in_range rule state w out h

  pub replay_valid : IsValid (uses_of out)
  replay_valid = built_valid h.overlay h.owners (length members) are out h.built

  module _ (edges : List Seg) (odd : List OddUse) (noded : IsNoded (uses_of members) edges odd) where
    off : (p : Point) → IsOff edges p → IsOff h.overlay.edges p
    off = off_live members in_range o h.is_overlay edges odd noded

    pub replay_holds : HoldsByOwner edges h.overlay h.owners out
    replay_holds =
        let holds = built_holds h.overlay h.owners (length members) are out h.built in
        record { within = λ p far. holds.within p (off p far); without = λ p far. holds.without p (off p far) }

    -- ---- by the label

    module _ (law : IsLawful rule) (p : Point) (far : IsOff edges p) where
      abbrev label : List ℕ
      label = label_at noded.snapped (length members) p

      of_region : (r : ℕ) → IsRegionOf o.edges p r → label_of o r ≡ label
      of_region r own = region_label members in_range o h.is_overlay edges odd noded p r own

      region_or_not : ((r : ℕ) × IsRegionOf o.edges p r) ⊎ IsOuter o.edges p
      region_or_not = region_or_outer o h.owners (length members) are p (off p far)

      has_region : 0 < length label → (r : ℕ) × IsRegionOf o.edges p r
      has_region some = elim region_or_not [
        | inl there ↦ there
        | inr outer ↦ absurd (let none = ap length (outer_empty members in_range o h.is_overlay edges odd noded p outer) in omega (arith, none, some))
      ]

      held_by : (r : ℕ) → IsRegionOf o.edges p r → (owner : Option ℕ) → h.owners r ≡ owner → IsHeldBy (uses_of out) owner p
      held_by r own owner is = subst (λ x. IsHeldBy (uses_of out) x p) is (replay_holds.within p far r own)

      -- out of narrow gaps the owner is that of the label
      label_owned : (r : ℕ) → IsRegionOf o.edges p r → ¬ IsNarrowGap o r w → h.owners r ≡ owner_by rule state o r label
      label_owned r own wide = elim (h.are_owners r (region_of o.edges p r own)) [
        | inl filled ↦ absurd (wide ((h.are_gaps.exact r).0 filled.0))
        | inr by_label ↦ by_label.1 ∙ ap (owner_by rule state o r) (of_region r own)
      ]

      not_narrow : (r : ℕ) → IsRegionOf o.edges p r → 0 < length label → ¬ IsNarrowGap o r w
      not_narrow r own some narrow = let none = ap length (sym (of_region r own) ∙ narrow.gap.empty) in omega (arith, none, some)

      single : (i : ℕ) → label ≡ i ∷ [] → IsHeldBy (uses_of out) (Some i) p
      single i is =
          let some : 0 < length label = let one = ap length is in omega (arith, one) in
          let r = has_region some in
          held_by r.0 r.1 (Some i) (label_owned r.0 r.1 (not_narrow r.0 r.1 some) ∙ ap (owner_by rule state o r.0) is)

      by_pick : (r : ℕ) (xs : List ℕ) → 2 ≤ length xs → owner_by rule state o r xs ≡ picked_owner rule state o r
      by_pick r [] more = absurd (omega (arith, more))
      by_pick r (i ∷ []) more = absurd (omega (arith, more))
      by_pick r (i ∷ j ∷ xs) more = refl

      several : 2 ≤ length label → IsHeldByPick rule state o out label p
      several more =
          let some : 0 < length label = omega (arith, more) in
          let r = has_region some in
          let same = of_region r.0 r.1 in
          let count = ap length same in
          let k = held_owner rule state o r.0 law (omega (arith, count, some)) in
          let of_label : owner_by rule state o r.0 label ≡ Some k.0 = ap (owner_by rule state o r.0) (sym same) ∙ k.1.0 in
          record {
            region = r.0;
            within = r.1;
            member = k.0;
            listed = subst (λ xs. Contains xs k.0) same k.1.1;
            picked = sym (by_pick r.0 label more) ∙ of_label;
            held = held_by r.0 r.1 (Some k.0) (label_owned r.0 r.1 (not_narrow r.0 r.1 some) ∙ of_label);
          }

      narrow : (r : ℕ) → IsRegionOf o.edges p r → IsNarrowGap o r w → IsHeldByFiller rule state o h.gaps out r p
      narrow r own is =
          let k = gap_filler rule state o h.gaps r (live members in_range o h.is_overlay) law is.gap in
          record {
            member = k.0;
            picked = k.1.picked;
            held = held_by r own (Some k.0) (elim (h.are_owners r (region_of o.edges p r own)) [
              | inl filled ↦ filled.1 ∙ k.1.picked
              | inr by_label ↦ absurd (by_label.0 ((h.are_gaps.exact r).1 is))
            ]);
          }

      empty : label ≡ [] → ((r : ℕ) → IsRegionOf o.edges p r → ¬ IsNarrowGap o r w) → IsHeldBy (uses_of out) None p
      empty none wide = elim region_or_not [
        | inl there ↦ held_by there.0 there.1 None (label_owned there.0 there.1 (wide there.0 there.1) ∙ ap (owner_by rule state o there.0) none)
        | inr outer ↦ (λ m. (
          (λ holds. absurd (outer_free o h.owners (length members) are out h.built o.edges are.planar.in_range (in_edges o h.owners (length members) are out h.built) m p outer holds)),
          (λ is. absurd (none-some m is)),
        ))
      ]

      held_by_replay : IsHeldByReplay rule state o w h.gaps out label p
      held_by_replay = record { single = single; several = several; narrow = narrow; empty = empty }

-- a point is held as its label tells
pub replay_held : {State : Type 0} (members : Members) → (in_range : AllInRange members) → (rule : Rule State) → IsLawful rule → (state : State) (w : ℕ) (out : Members) → (h : IsCleanedWithGaps members rule state w out)
    → (edges : List Seg) (odd : List OddUse) → (noded : IsNoded (uses_of members) edges odd) → (p : Point) → IsOff edges p → IsHeldByReplay rule state h.overlay w h.gaps out (label_at noded.snapped (length members) p) p
replay_held members in_range rule law state w out h edges odd noded p far = held_by_replay members in_range rule state w out h edges odd noded law p far
