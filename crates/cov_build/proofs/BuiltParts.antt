-- For each part of the regions of a member a polygon that is sound for it.
use mathlib.Core.List.{List, [], ◌∷◌}
use Rattle.std.proofs.Common.{◌≡◌, refl, sym, ◌∙◌, ap, subst, ℕ, ◌*◌, ◌<◌, Bool, true, false, true≢false, length, Contains, Option, Some, None, arith}
use Rattle.std.specs.Global.{Vec}
use Rattle.std.proofs.lemmas.Bool.{eq-eqb}
use Rattle.std.proofs.lemmas.Option.{none-some, same_Some}
use Rattle.cov_types.specs.declared.coord.Coord.{Coord}
use Rattle.cov_types.specs.declared.seg.Seg.{Seg}
use Rattle.half_edge.proofs.Counts.{some_half_edge, number_within}
use Rattle.plane.specs.Point.{Point}
use Rattle.plane.specs.Region.{far_point, IsRegionOf, IsOuter, IsOuterRegion, AreRegions}
use Rattle.crossing_laws.proofs.Ways.{joined-trans, joined-sym}
use Rattle.arrangement.specs.Overlay.{Overlay, region_at}
use Rattle.sector_laws.specs.Sector.{HalfEdge, left, IsPlanar, AreDistinct}
use Rattle.sector_laws.proofs.Numbers.{half_edge_side, half_edge_among}
use Rattle.region_laws.proofs.Links.{link_out}
use Rattle.region_laws.proofs.Numbered.{index, index_is}
use Rattle.region_laws.proofs.Outwards.{some_out, leaves_at}
use Rattle.sound_polygons.specs.Cleaned.{IsOwned, IsSoundFor}
use Rattle.sound_polygons.specs.Parts.{InOnePart}
use Rattle.cov_build.specs.Boundaries.{AreBoundaries, boundary_list, boundary_edges}
use Rattle.cov_build.specs.Members.{IsMemberPart, IsPartPolygon, ArePartPolygons}
use Rattle.cov_build.specs.Parted.{ArePartsOf, IsPartAt, part_at, is_part}
use Rattle.cov_build.specs.Rings.{IsBoundaryPolygon}
use Rattle.cov_build.specs.Owners.{owner_in}
use Rattle.cov_build.specs.declared.boundary.BoundaryEdge.{BoundaryEdge}
use Rattle.cov_build.specs.declared.part.Part.{Part}
use Rattle.cov_build.proofs.BoundaryLists.{some_at, is_part_some}
use Rattle.cov_build.proofs.PartLists.{within_part}
use Rattle.cov_build.proofs.PartSides.{passes, passes_joined, number_of, same_part, bounds_thinned, bounds_part}
use Rattle.cov_build.proofs.RegionParts.{IsOwn, region_own, own_of, reached_own, part_long, part_own, least_own, ends_owned, inside_of, part_inside}
use Rattle.cov_build.proofs.SoundParts.{sound_for_part}
use Rattle.cov_build.proofs.Thinned.{IsThinned, none_thinned}

outer_is : (edges : List Seg) (p : Point) (r : ℕ) → IsRegionOf edges p r → IsOuter edges p → IsOuterRegion edges r
outer_is edges p r own out = record {
  outer = record { at = own.joined.at; side = own.joined.side; outer = joined-trans edges own.joined.at p far_point (joined-sym edges p own.joined.at own.joined.joined) out };
  least = λ n o. own.least n (record { at = o.at; side = o.side; joined = joined-trans edges p far_point o.at out (joined-sym edges o.at far_point o.outer) });
}

module _ (o : Overlay) (planar : IsPlanar o.edges) (distinct : AreDistinct o.edges) (regions : AreRegions o.edges o.numbers) (owned : List (Option ℕ)) (parts : List (Option Part)) (are : ArePartsOf o (owner_in owned) parts) where
  abbrev IsOwnRegion : ℕ → Type 0
  IsOwnRegion r = IsOwn o planar distinct regions (owner_in owned) parts are r

  -- ---- an owned part has a boundary

  module _ (outer : (n : ℕ) → IsOuterRegion o.edges n → owner_in owned n ≡ None) (p : ℕ) where
    abbrev in_part : HalfEdge → Bool
    in_part = passes o planar distinct regions (owner_in owned) parts are p

    off_part : (r : ℕ) (q : Option Part) → owner_in owned r ≡ None → IsPartAt o (owner_in owned) r q → is_part q p ≡ false
    off_part r None none is = refl
    off_part r (Some part) none is = absurd (none-some is.owner (sym none ∙ is.owned))

    not_all : (r : ℕ) → IsOwnRegion r → part_at parts r ≡ Some (record { least = p }) → boundary_list parts p o.edges ≡ [] → ⊥
    not_all r own at none =
        let (h, at_h) = some_half_edge o.edges r own.within in
        let in_h = half_edge_among o.edges r h at_h in
        let within : in_part h ≡ true = ap (λ n. is_part (part_at parts n) p) (number_of o planar distinct regions (owner_in owned) parts are p h in_h r at_h) ∙ ap (λ q. is_part q p) at ∙ eq-eqb p p refl in
        let out = some_out o.edges planar h in_h in
        let g = out.half_edge in
        let in_g = (leaves_at o.edges out.vertex g out.leaves).among in
        let m = index o.edges g in
        let at_g = index_is o.edges g in_g in
        let outside = link_out o.edges planar out.vertex g out.leaves out.none in
        let region = regions.each m (left g) (half_edge_side o.edges m g at_g) in
        let off : in_part g ≡ false = off_part (region_at o m) (part_at parts m) (outer (region_at o m) (outer_is o.edges (left g) (region_at o m) region outside)) (are.each m (number_within o.edges m g at_g)) in
        let thin : IsThinned in_part o.edges [] = subst (IsThinned in_part o.edges) (ap boundary_edges none) (bounds_thinned o planar distinct regions (owner_in owned) parts are p) in
        true≢false (sym within ∙ none_thinned o.edges planar distinct in_part (passes_joined o planar distinct regions (owner_in owned) parts are p) thin h g in_h in_g ∙ off)

    pub some_boundary : (r : ℕ) → IsOwnRegion r → part_at parts r ≡ Some (record { least = p }) → 0 < length (boundary_list parts p o.edges)
    some_boundary r own at = by (boundary_list parts p o.edges) (not_all r own at)
      where
        by : (bs : List BoundaryEdge) → (bs ≡ [] → ⊥) → 0 < length bs
        by [] none = absurd (none refl)
        by (b ∷ bs) none = omega arith

  -- ---- the polygon of a part is sound for it

  module _ (outer : (n : ℕ) → IsOuterRegion o.edges n → owner_in owned n ≡ None) where
    sound_for : (i p r : ℕ) (rings : List (List Coord)) → IsOwnRegion r → part_at parts r ≡ Some (record { least = p }) → owner_in owned r ≡ Some i → 0 < length (boundary_list parts p o.edges)
        → IsBoundaryPolygon (boundary_list parts p o.edges) rings → IsSoundFor o (owner_in owned) i r rings
    sound_for i p r rings own at owns some polygon =
        let part = part_inside o planar distinct regions (owner_in owned) parts are i r own (record { least = p }) at owns in
        record {
          inside = inside_of o planar distinct regions (owner_in owned) parts are p;
          part = part;
          sound = sound_for_part o planar distinct regions (owner_in owned) parts are p some rings polygon i r part (λ g is owned_g. none-some i (sym (outer g is) ∙ owned_g));
        }

  module _ (lists : List (Vec BoundaryEdge)) (bound : AreBoundaries parts o.edges lists) where
    pub boundary_at : (i p : ℕ) (boundary : List BoundaryEdge) → IsMemberPart lists owned i p boundary → boundary ≡ boundary_list parts p o.edges
    boundary_at i p boundary of = sym of.is ∙ bound.each p of.vec of.at

    pub each_sound : (outer : (n : ℕ) → IsOuterRegion o.edges n → owner_in owned n ≡ None) (first i : ℕ) (rings : List (List Coord)) → IsPartPolygon lists owned first i rings → (r : ℕ) × (IsOwned o (owner_in owned) i r × IsSoundFor o (owner_in owned) i r rings)
    each_sound outer first i rings is =
        let p = is.place in
        let same = boundary_at i p is.boundary is.member_part in
        let some : 0 < length (boundary_list parts p o.edges) = subst (λ (bs : List BoundaryEdge). 0 < length bs) same is.member_part.some in
        let (b, at_b) = some_at (boundary_list parts p o.edges) 0 some in
        let n = index o.edges (record { edge = b.edge; forwards = b.above }) in
        let at_n = is_part_some (part_at parts n) p (within_part o planar distinct regions (owner_in owned) parts are lists bound p b (bounds_part o planar distinct regions (owner_in owned) parts are p 0 b at_b)) in
        let below : n < 2 * length o.edges = (let long = part_long parts n (record { least = p }) at_n in omega (arith, long, are.count)) in
        let own = region_own o planar distinct regions (owner_in owned) parts are n below in
        let r = region_at o n in
        let at_r : part_at parts r ≡ Some (record { least = p }) = same_part o planar distinct regions (owner_in owned) parts are p r n own.within below own.same ∙ at_n in
        let least = least_own o planar distinct regions (owner_in owned) parts are r own (record { least = p }) at_r in
        let owns : owner_in owned r ≡ Some i = least.owned ∙ sym (ends_owned o (owner_in owned) least.owner r p least.in_part) ∙ is.member_part.owned in (
          r,
          (
            record { region = Rattle.cov_build.proofs.RegionParts.region_of o planar distinct regions (owner_in owned) parts are r own; owned = owns },
            sound_for outer i p r rings own at_r owns some (subst (λ bs. IsBoundaryPolygon bs rings) same is.polygon),
          ),
        )

    pub every_sound : (outer : (n : ℕ) → IsOuterRegion o.edges n → owner_in owned n ≡ None) (i : ℕ) (polys : List (List (List Coord))) → ArePartPolygons lists owned (length lists) i polys
        → (r : ℕ) → IsOwned o (owner_in owned) i r → (rings : List (List Coord)) × (Contains polys rings × IsSoundFor o (owner_in owned) i r rings)
    every_sound outer i polys of r is =
        let own = own_of o planar distinct regions (owner_in owned) parts are r is.region in
        by own (part_at parts r) refl (part_own o planar distinct regions (owner_in owned) parts are r own)
      where
        by : IsOwnRegion r → (q : Option Part) → part_at parts r ≡ q → IsPartAt o (owner_in owned) r q → (rings : List (List Coord)) × (Contains polys rings × IsSoundFor o (owner_in owned) i r rings)
        by own None at none = absurd (none-some i (sym none ∙ is.owned))
        by own (Some part) at least =
            let p = part.least in
            let owner : least.owner ≡ i = same_Some least.owner i (sym least.owned ∙ is.owned) in
            let to_p : InOnePart o (owner_in owned) i r p = subst (λ j. InOnePart o (owner_in owned) j r p) owner least.in_part in
            let own_p = reached_own o planar distinct regions (owner_in owned) parts are i r to_p.0 p to_p.1 own in
            let below : p < length lists = omega (arith, own_p.within, are.count, bound.count) in
            let (v, at_v) = some_at lists p below in
            let some = some_boundary outer p r own at in
            let same = bound.each p v at_v in
            let found = of.every p v.items below (record { vec = v; at = at_v; is = refl; some = subst (λ (bs : List BoundaryEdge). 0 < length bs) (sym same) some; owned = ends_owned o (owner_in owned) i r p to_p }) in
            (found.0, (found.1.0, sound_for outer i p r found.0 own at is.owned some (subst (λ bs. IsBoundaryPolygon bs found.0) same found.1.1)))
