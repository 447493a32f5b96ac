-- A coverage has one map of its faults, but for how its lists are kept.
use Rattle.std.proofs.Common.{◌≡◌, sym, ◌∙◌, ap, subst, ℕ, List, ◌++◌, length, map, Option}
use Rattle.std.specs.List.{AllZip}
use Rattle.std.proofs.lemmas.List.{map-append}
use Rattle.cov_types.specs.Coverage.{Members, AllInRange}
use Rattle.cov_types.specs.Uses.{uses_of}
use Rattle.cov_types.proofs.AllUses.{uses-in_range}
use Rattle.sector_laws.specs.Sector.{IsPlanar}
use Rattle.arrangement.specs.Overlay.{Overlay}
use Rattle.arrangement.proofs.OneOverlay.{one_snapped_overlay}
use Rattle.arrangement.proofs.SnappedPlanar.{snapped_planar}
use Rattle.region_owners.specs.Gap.{IsGap}
use Rattle.cov_valid.specs.declared.mark.Mark.{Mark}
use Rattle.cov_marks.proofs.GapMarks.{one_marks}
use Rattle.json_write.specs.Text.{collection_text}
use Rattle.fault_text.specs.MapText.{map_feature_text, map_bytes}
use Rattle.fault_text.specs.declared.feature.MapFeature.{MapFeature}
use Rattle.fault_map.specs.FaultMap.{IsFaultMap, IsMarkFeature, IsShared, IsOverlapFeature, IsGapFeature, AreFeaturesOf}
use Rattle.fault_map.proofs.OneFeature.{mark_text, overlap_text, gap_text, same_texts, listed_texts}

in_three : {X Y : Type 0} (f : X → Y) (xs ys zs : List X) → map f (xs ++ (ys ++ zs)) ≡ map f xs ++ (map f ys ++ map f zs)
in_three f xs ys zs = map-append f xs (ys ++ zs) ∙ ap (λ rest. map f xs ++ rest) (map-append f ys zs)

module _ (members : Members) (in_range : AllInRange members) (w marked other : ℕ) (features others : List MapFeature) (h : IsFaultMap members w marked features) (k : IsFaultMap members w other others) where
  same_marks : h.marks ≡ k.marks
  same_marks = one_marks (uses_of members) (length members) w h.marks k.marks h.are_marks k.are_marks

  same_overlay : h.overlay ≡ k.overlay
  same_overlay = one_snapped_overlay (uses_of members) (uses-in_range members in_range) (length members) h.overlay k.overlay h.is_overlay k.is_overlay

  module _ (scale : Option ℕ) where
    abbrev texts : List MapFeature → List (List ℕ)
    texts features = map (map_feature_text scale) features

    planar : IsPlanar k.overlay.edges
    planar = snapped_planar (uses_of members) (uses-in_range members in_range) (length members) k.overlay k.is_overlay

    marks_same : texts h.of_marks ≡ texts k.of_marks
    marks_same =
        same_texts scale (IsMarkFeature (uses_of members)) (mark_text scale (uses_of members)) k.marks h.of_marks k.of_marks
        (subst (λ (ms : List Mark). AllZip (IsMarkFeature (uses_of members)) ms h.of_marks) same_marks h.marks_shown) k.marks_shown

    overlaps_same : texts h.of_overlaps ≡ texts k.of_overlaps
    overlaps_same =
        listed_texts scale (IsShared k.overlay) (IsOverlapFeature k.overlay) (overlap_text scale k.overlay planar) h.of_overlaps k.of_overlaps
        (subst (λ (o : Overlay). AreFeaturesOf (IsShared o) (IsOverlapFeature o) h.of_overlaps) same_overlay h.overlaps_shown) k.overlaps_shown

    gaps_same : texts h.of_gaps ≡ texts k.of_gaps
    gaps_same =
        listed_texts scale (IsGap k.overlay) (IsGapFeature k.overlay) (gap_text scale k.overlay planar) h.of_gaps k.of_gaps
        (subst (λ (o : Overlay). AreFeaturesOf (IsGap o) (IsGapFeature o) h.of_gaps) same_overlay h.gaps_shown) k.gaps_shown

    same_bytes : map_bytes scale features ≡ map_bytes scale others
    same_bytes = ap collection_text (
        ap texts h.all ∙ in_three (map_feature_text scale) h.of_marks h.of_overlaps h.of_gaps
        ∙ (λ i. marks_same i ++ (overlaps_same i ++ gaps_same i))
        ∙ sym (ap texts k.all ∙ in_three (map_feature_text scale) k.of_marks k.of_overlaps k.of_gaps))

  pub one_map : (marked ≡ other) × ((scale : Option ℕ) → map_bytes scale features ≡ map_bytes scale others)
  one_map = (h.count ∙ ap length same_marks ∙ sym k.count, same_bytes)
