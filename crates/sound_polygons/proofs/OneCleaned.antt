-- At most one coverage is a given one, cleaned.
use mathlib.Core.List.{[], ◌∷◌}
use Rattle.std.proofs.Common.{◌≡◌, inl, inr, sym, ◌∙◌, subst, ℕ, ◌+◌, ◌*◌, ◌<◌, Bool, List, get_or, IsTrue, arith}
use Rattle.std.specs.Prelude.{Contains, length, Option, Some, slice_get}
use Rattle.std.specs.Ordering.{is_lt}
use Rattle.std.proofs.lemmas.List.{same_lists}
use Rattle.std.proofs.lemmas.List.Elements.{All-contains}
use Rattle.std.proofs.lemmas.Option.{slice_get-get_or}
use Rattle.cov_types.specs.declared.coord.Coord.{Coord}
use Rattle.cov_types.specs.declared.seg.Seg.{Seg}
use Rattle.cov_types.specs.Coord.{points_cmp}
use Rattle.cov_types.specs.Coverage.{Members, AllInRange}
use Rattle.cov_types.specs.Uses.{uses_of}
use Rattle.cov_types.proofs.AllUses.{uses-in_range}
use Rattle.plane.specs.Point.{Point}
use Rattle.plane.specs.Region.{IsSide, AreRegions}
use Rattle.plane.specs.Segment.{upper, lower}
use Rattle.plane.proofs.Same.{same_tests}
use Rattle.crossing_laws.proofs.Located.{region-joined}
use Rattle.sector_laws.specs.Sector.{IsPlanar}
use Rattle.arrangement.specs.Overlay.{Overlay, region_at, IsRegion, AreBeside}
use Rattle.arrangement.proofs.Numberings.{upper_side, lower_side}
use Rattle.arrangement.proofs.OneNoding.{same_ordered}
use Rattle.arrangement.proofs.OneOverlay.{one_snapped_overlay}
use Rattle.arrangement.proofs.PointOrders.{points_both_ways}
use Rattle.arrangement.proofs.SnappedPlanar.{snapped_planar}
use Rattle.region_owners.specs.Owner.{Rule, AreOwners}
use Rattle.region_owners.proofs.Owners.{owner_unique}
use Rattle.sound_polygons.specs.Cleaned.{shell_of, IsPolyCanonical, IsSoundFor, ArePolygonsOf, IsBuilt, IsCleaned}
use Rattle.sound_polygons.specs.Laws.{AgreeOnRegions}
use Rattle.sound_polygons.specs.Parts.{LeadsWithin, IsPartOf, IsSound}
use Rattle.sound_polygons.proofs.OnePolygon.{one_polygon}

abbrev Polygon : Type 0
Polygon = List (List Coord)

module _ (o : Overlay) (planar : IsPlanar o.edges) (regions : AreRegions o.edges o.numbers) where
  -- ---- both sides of an edge are of regions

  of_side : (n : ℕ) (p : Point) → IsSide o.edges n p → IsRegion o.edges (region_at o n)
  of_side n p side =
      let h = regions.each n p side in
      record { at = h.joined.at; side = h.joined.side; own = region-joined o.edges p h.joined.at (region_at o n) h.joined.joined h }

  -- the edge at a place
  edge_at : (edges : List Seg) (k : ℕ) → k < length edges → (e : Seg) × (slice_get edges k ≡ Some e)
  edge_at [] k less = absurd (omega arith)
  edge_at (e ∷ edges) k less = (get_or (e ∷ edges) k e, slice_get-get_or (e ∷ edges) k e less)

  beside_region : (r s : ℕ) → AreBeside o r s → IsRegion o.edges s
  beside_region r s h =
      let e = edge_at o.edges h.edge h.listed in
      elim h.sides [
        | inl up ↦ subst (IsRegion o.edges) up.1 (of_side (2 * h.edge + 1) (lower e.0) (lower_side o.edges h.edge e.0 e.1))
        | inr down ↦ subst (IsRegion o.edges) down.0 (of_side (2 * h.edge) (upper e.0) (upper_side o.edges h.edge e.0 e.1))
      ]

  -- ---- owners that agree on the regions

  agree_back : (owners others : ℕ → Option ℕ) → AgreeOnRegions o owners others → AgreeOnRegions o others owners
  agree_back owners others agree r region = sym (agree r region)

  way_moved : (owners others : ℕ → Option ℕ) → AgreeOnRegions o owners others → (i r : ℕ) (way : List ℕ) (s : ℕ) → IsRegion o.edges r → LeadsWithin o owners i r way s → LeadsWithin o others i r way s
  way_moved owners others agree i r [] s region h = (sym (agree r region) ∙ h.0, h.1)
  way_moved owners others agree i r (g ∷ way) s region h = (sym (agree r region) ∙ h.0, h.1, way_moved owners others agree i g way s (beside_region r g h.1) h.2)

  one_part : (owners others : ℕ → Option ℕ) → AgreeOnRegions o owners others → (i r : ℕ) → IsRegion o.edges r → (inside within : ℕ → Bool) → IsPartOf o owners i r inside → IsPartOf o others i r within → inside ≡ within
  one_part owners others agree i r region inside within h k = λ j g. same g j
    where
      same : (g : ℕ) → inside g ≡ within g
      same g = same_tests (inside g) (within g)
          (λ t. (let way = (h g).0 t in (k g).1 (way.0, way_moved owners others agree i r way.0 g region way.1)))
          (λ t. (let way = (k g).0 t in (h g).1 (way.0, way_moved others owners (agree_back owners others agree) i r way.0 g region way.1)))

  -- ---- the polygons of a member

  module _ (owners others : ℕ → Option ℕ) (agree : AgreeOnRegions o owners others) (i : ℕ) (polys more : List Polygon) (h : ArePolygonsOf o owners i polys) (k : ArePolygonsOf o others i more) where
    same_for : (r : ℕ) → IsRegion o.edges r → (rings found : Polygon) → IsSoundFor o owners i r rings → IsSoundFor o others i r found → IsPolyCanonical rings → IsPolyCanonical found → rings ≡ found
    same_for r region rings found x y canonical canonical_too =
        let same = one_part owners others agree i r region x.inside y.inside x.part y.part in
        one_polygon o planar y.inside rings found (subst (λ inside. IsSound o inside rings) same x.sound) y.sound canonical canonical_too

    there_too : (rings : Polygon) → Contains polys rings → Contains more rings
    there_too rings has =
        let x = h.each rings has in
        let r = x.0 in
        let region = x.1.0.region in
        let y = k.every r (record { region = region; owned = sym (agree r region) ∙ x.1.0.owned }) in
        let same = same_for r region rings y.0 x.1.1 y.1.1 (All-contains IsPolyCanonical polys rings h.canonical.each has) (All-contains IsPolyCanonical more y.0 k.canonical.each y.1.0) in
        subst (Contains more) (sym same) y.1.0

  same_polygons : (owners others : ℕ → Option ℕ) → AgreeOnRegions o owners others → (i : ℕ) (polys more : List Polygon) → ArePolygonsOf o owners i polys → ArePolygonsOf o others i more → polys ≡ more
  same_polygons owners others agree i polys more h k =
      same_ordered (λ a b. IsTrue (is_lt (points_cmp (shell_of a) (shell_of b)))) (λ a b. points_both_ways (shell_of a) (shell_of b)) polys more h.canonical.shells k.canonical.shells
      (λ rings. (there_too owners others agree i polys more h k rings, there_too others owners (agree_back owners others agree) i more polys k h rings))

  pub one_built : (owners others : ℕ → Option ℕ) → AgreeOnRegions o owners others → (members : ℕ) (out other : Members) → IsBuilt o owners members out → IsBuilt o others members other → out ≡ other
  one_built owners others agree members out other h k =
      let long = h.count in
      let long_too = k.count in
      same_lists out other (long ∙ sym long_too) (λ i d within. (
      same_polygons owners others agree i (get_or out i d) (get_or other i d) (h.each i (get_or out i d) (slice_get-get_or out i d within)) (k.each i (get_or other i d) (slice_get-get_or other i d (omega arith)))))

-- ---- the cleaned coverage

-- what is built on an overlay
record IsBuiltOn {State : Type 0} (o : Overlay) (members : Members) (rule : Rule State) (state : State) (w : ℕ) (out : Members) : Type 0 where
  owners : ℕ → Option ℕ
  are_owners : AreOwners rule state o w owners
  built : IsBuilt o owners (length members) out

pub one_cleaned : {State : Type 0} (members : Members) → AllInRange members → (rule : Rule State) (state : State) (w : ℕ) (out other : Members)
    → IsCleaned members rule state w out → IsCleaned members rule state w other → out ≡ other
one_cleaned {State} members in_range rule state w out other h k =
    let uses_range = uses-in_range members in_range in
    let same : k.overlay ≡ h.overlay = one_snapped_overlay (uses_of members) uses_range (length members) k.overlay h.overlay k.is_overlay h.is_overlay in
    let there : IsBuiltOn h.overlay members rule state w other = subst (λ o. IsBuiltOn o members rule state w other) same (record { owners = k.owners; are_owners = k.are_owners; built = k.built }) in
    let planar = snapped_planar (uses_of members) uses_range (length members) h.overlay h.is_overlay in
    one_built h.overlay planar h.is_overlay.overlay.numbered h.owners there.owners
    (λ r region. owner_unique rule state h.overlay w r (h.owners r) (there.owners r) (h.are_owners r region) (there.are_owners r region))
    (length members) out other h.built there.built
