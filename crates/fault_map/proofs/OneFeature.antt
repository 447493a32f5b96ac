-- Two features that show one mark, or one region, have one text.
use Rattle.std.proofs.Common.{◌≡◌, refl, sym, ◌∙◌, ap, subst, ℕ, ℤ, List, [], ◌∷◌, ◌++◌, map, Option}
use Rattle.std.specs.Prelude.{codes}
use Rattle.std.specs.List.{AllZip}
use Rattle.std.proofs.lemmas.Option.{same_Some}
use Rattle.cov_types.specs.declared.coord.Coord.{Coord}
use Rattle.cov_types.specs.declared.edge_use.EdgeUse.{EdgeUse}
use Rattle.sector_laws.specs.Sector.{IsPlanar}
use Rattle.arrangement.specs.Overlay.{Overlay}
use Rattle.region_owners.proofs.Clearances.{clearance_unique}
use Rattle.sound_polygons.proofs.OnePolygon.{one_polygon}
use Rattle.cov_valid.specs.declared.mark.Mark.{Mark}
use Rattle.cov_valid.proofs.Ascending.{same_ascending}
use Rattle.fault_text.specs.MapText.{polygon_geometry, overlap_properties, gap_properties, map_feature_text}
use Rattle.fault_text.specs.declared.feature.MapFeature.{MapFeature}
use Rattle.fault_text.specs.declared.feature.MapFeature.TheVariants.{Marked, Overlap, Gap}
use Rattle.fault_map.specs.FaultMap.{IsMarkFeature, IsOverlapFeature, IsGapFeature, AreBordering, AreListed, AreFeaturesOf}
use Rattle.fault_map.specs.Polygon.{IsRegionPolygon}

-- lists of numbers with the same elements, ascending, are one
pub one_list : (IsListed : ℕ → Type 0) (ms ns : List ℕ) → AreListed IsListed ms → AreListed IsListed ns → ms ≡ ns
one_list IsListed ms ns are others = same_ascending (λ (n : ℕ). n) ms ns are.ascending others.ascending (λ m h. (others.exact m).1 ((are.exact m).0 h)) (λ m h. (are.exact m).1 ((others.exact m).0 h))

one_bordering : (o : Overlay) (r : ℕ) (ms ns : List ℕ) → AreBordering o r ms → AreBordering o r ns → ms ≡ ns
one_bordering o r ms ns are others = same_ascending (λ (n : ℕ). n) ms ns are.ascending others.ascending (λ m h. (others.exact m).1 ((are.exact m).0 h)) (λ m h. (are.exact m).1 ((others.exact m).0 h))

one_region_polygon : (o : Overlay) → IsPlanar o.edges → (r : ℕ) (rings others : List (List Coord)) → IsRegionPolygon o r rings → IsRegionPolygon o r others → rings ≡ others
one_region_polygon o planar r rings others h w = one_polygon o planar _ rings others h.sound w.sound h.canonical w.canonical

module _ (scale : Option ℕ) where
  pub mark_text : (uses : List EdgeUse) (m : Mark) (f g : MapFeature) → IsMarkFeature uses m f → IsMarkFeature uses m g → map_feature_text scale f ≡ map_feature_text scale g
  mark_text uses m (Overlap members area2 region polygon) g h w = absurd h
  mark_text uses m (Gap area2 clearance region members polygon) g h w = absurd h
  mark_text uses m (Marked kind member place segment) (Overlap members area2 region polygon) h w = absurd w
  mark_text uses m (Marked kind member place segment) (Gap area2 clearance region members polygon) h w = absurd w
  mark_text uses m (Marked kind member place segment) (Marked other_kind other_member other_place other_segment) h w =
      let edges : h.3.0 ≡ w.3.0 = same_Some h.3.0 w.3.0 (sym h.3.1.0 ∙ w.3.1.0) in
      let segments : segment ≡ other_segment = h.3.1.1 ∙ ap (λ (u : EdgeUse). u.seg) edges ∙ sym w.3.1.1 in
      λ i. map_feature_text scale (Marked ((h.0 ∙ sym w.0) i) ((h.1 ∙ sym w.1) i) ((h.2 ∙ sym w.2) i) (segments i))

  -- the texts by what they tell
  abbrev overlap_text_of : List ℕ → ℤ → ℕ → List (List Coord) → List ℕ
  overlap_text_of members area2 region polygon = codes "{\"geometry\":" ++ polygon_geometry scale polygon ++ codes ",\"properties\":" ++ overlap_properties members area2 region ++ codes ",\"type\":\"Feature\"}"

  abbrev gap_text_of : ℤ → ℕ → ℕ → List ℕ → List (List Coord) → List ℕ
  gap_text_of area2 clearance region members polygon = codes "{\"geometry\":" ++ polygon_geometry scale polygon ++ codes ",\"properties\":" ++ gap_properties area2 clearance region members ++ codes ",\"type\":\"Feature\"}"

  module _ (o : Overlay) (planar : IsPlanar o.edges) where
    pub overlap_text : (r : ℕ) (f g : MapFeature) → IsOverlapFeature o r f → IsOverlapFeature o r g → map_feature_text scale f ≡ map_feature_text scale g
    overlap_text r (Marked kind member place segment) g h w = absurd h
    overlap_text r (Gap area2 clearance region members polygon) g h w = absurd h
    overlap_text r (Overlap members area2 region polygon) (Marked kind member place segment) h w = absurd w
    overlap_text r (Overlap members area2 region polygon) (Gap other_area2 clearance other_region other_members other_polygon) h w = absurd w
    overlap_text r (Overlap members area2 region polygon) (Overlap other_members other_area2 other_region other_polygon) h w =
        let polygons : polygon ≡ other_polygon = one_region_polygon o planar r polygon other_polygon h.3 w.3 in
        λ i. overlap_text_of ((h.0 ∙ sym w.0) i) ((h.1 ∙ sym w.1) i) ((h.2 ∙ sym w.2) i) (polygons i)

    pub gap_text : (r : ℕ) (f g : MapFeature) → IsGapFeature o r f → IsGapFeature o r g → map_feature_text scale f ≡ map_feature_text scale g
    gap_text r (Marked kind member place segment) g h w = absurd h
    gap_text r (Overlap members area2 region polygon) g h w = absurd h
    gap_text r (Gap area2 clearance region members polygon) (Marked kind member place segment) h w = absurd w
    gap_text r (Gap area2 clearance region members polygon) (Overlap other_members other_area2 other_region other_polygon) h w = absurd w
    gap_text r (Gap area2 clearance region members polygon) (Gap other_area2 other_clearance other_region other_members other_polygon) h w =
        let clearances : clearance ≡ other_clearance = clearance_unique o.edges r clearance other_clearance h.1 w.1 in
        let borders : members.items ≡ other_members.items = one_bordering o r members.items other_members.items h.3 w.3 in
        let polygons : polygon ≡ other_polygon = one_region_polygon o planar r polygon other_polygon h.4 w.4 in
        λ i. gap_text_of ((h.0 ∙ sym w.0) i) (clearances i) ((h.2 ∙ sym w.2) i) (borders i) (polygons i)

  -- lists of features that show the same have the same texts
  pub same_texts : {X : Type 0} (R : X → MapFeature → Type 0) → ((x : X) (f g : MapFeature) → R x f → R x g → map_feature_text scale f ≡ map_feature_text scale g) → (xs : List X) (fs gs : List MapFeature) → AllZip R xs fs → AllZip R xs gs
      → map (map_feature_text scale) fs ≡ map (map_feature_text scale) gs
  same_texts R one [] [] [] first second = refl
  same_texts R one [] [] (g ∷ gs) first second = absurd second
  same_texts R one [] (f ∷ fs) gs first second = absurd first
  same_texts R one (x ∷ xs) [] gs first second = absurd first
  same_texts R one (x ∷ xs) (f ∷ fs) [] first second = absurd second
  same_texts R one (x ∷ xs) (f ∷ fs) (g ∷ gs) first second = λ i. one x f g first.0 second.0 i ∷ same_texts R one xs fs gs first.1 second.1 i

  -- so have those of the regions that are to be listed
  pub listed_texts : (IsListed : ℕ → Type 0) (R : ℕ → MapFeature → Type 0) → ((r : ℕ) (f g : MapFeature) → R r f → R r g → map_feature_text scale f ≡ map_feature_text scale g) → (fs gs : List MapFeature) → AreFeaturesOf IsListed R fs → AreFeaturesOf IsListed R gs
      → map (map_feature_text scale) fs ≡ map (map_feature_text scale) gs
  listed_texts IsListed R one fs gs are others =
      same_texts R one others.regions fs gs (subst (λ rs. AllZip R rs fs) (one_list IsListed are.regions others.regions are.listed others.listed) are.each) others.each
