-- Off the edges the polygon of a part has the points of its regions, and an odd number of its rings' edges is over just these.
use mathlib.Core.List.{[], ◌∷◌}
use Rattle.std.proofs.Common.{◌≡◌, refl, sym, ◌∙◌, ap, subst, ℕ, Bool, true, not, ◌&&◌, ◌||◌, List, ◌++◌, map, flat_map}
use Rattle.std.specs.Prelude.{Contains}
use Rattle.std.specs.List.{list_any}
use Rattle.std.proofs.lemmas.List.Elements.{All-contains}
use Rattle.cov_types.specs.declared.seg.Seg.{Seg}
use Rattle.plane.specs.Joined.{IsOff, Joined}
use Rattle.plane.specs.Parity.{holds}
use Rattle.plane.specs.Point.{Point}
use Rattle.plane.specs.Region.{IsRegionOf, AreRegions}
use Rattle.plane.proofs.Same.{same_tests}
use Rattle.crossing_laws.proofs.Lists.{contains_here, contains_there}
use Rattle.crossing_laws.proofs.Located.{one_region, region-joined}
use Rattle.sector_laws.specs.Sector.{HalfEdge, left, AreDistinct, IsPlanar}
use Rattle.region_laws.proofs.Numbered.{side_half_edge}
use Rattle.arrangement.specs.Overlay.{Overlay}
use Rattle.shell_laws.specs.Laws.{HasShellFirst}
use Rattle.shell_laws.specs.Part.{IsPartTest, part_boundary}
use Rattle.shell_laws.specs.Ring.{way_edges, IsInPart, IsRingRound, ring_holds, is_within}
use Rattle.shell_laws.proofs.Points.{in_part_within, even_odd}
use Rattle.sound_polygons.specs.Parts.{ring_edges, is_in_polygon}
use Rattle.part_polygons.specs.Inside.{TellsInside, points_of}
use Rattle.part_polygons.proofs.PartTest.{on_left}
use Rattle.part_polygons.proofs.Sides.{edges_are}

module _ (edges : List Seg) (passes : HalfEdge → Bool) where
  same_edges : (ring : List HalfEdge) → IsRingRound edges passes ring → ring_edges (points_of ring) ≡ way_edges ring
  same_edges ring is = edges_are (part_boundary edges passes) ring is.closed

  all_edges : (some : List (List HalfEdge)) → ((ring : List HalfEdge) → Contains some ring → IsRingRound edges passes ring) → flat_map ring_edges (map points_of some) ≡ flat_map way_edges some
  all_edges [] are = refl
  all_edges (ring ∷ some) are = λ i. same_edges ring (are ring (contains_here ring some)) i ++ all_edges some (λ r has. are r (contains_there ring r some has)) i

  any_holds : (p : Point) (some : List (List HalfEdge)) → ((ring : List HalfEdge) → Contains some ring → IsRingRound edges passes ring)
      → list_any (λ hole. holds (ring_edges hole) p) (map points_of some) ≡ list_any (λ hole. ring_holds hole p) some
  any_holds p [] are = refl
  any_holds p (ring ∷ some) are = λ i. holds (same_edges ring (are ring (contains_here ring some)) i) p || any_holds p some (λ r has. are r (contains_there ring r some has)) i

  module _ (shell : List HalfEdge) (holes : List (List HalfEdge)) (first : HasShellFirst edges passes shell holes) where
    is_ring : (ring : List HalfEdge) → Contains (shell ∷ holes) ring → IsRingRound edges passes ring
    is_ring ring has = All-contains (IsRingRound edges passes) (shell ∷ holes) ring first.rings.each has

    within_is : (p : Point) → is_in_polygon (map points_of (shell ∷ holes)) p ≡ is_within shell holes p
    within_is p = λ i. holds (same_edges shell (is_ring shell (contains_here shell holes)) i) p && not (any_holds p holes (λ r has. is_ring r (contains_there shell r holes has)) i)

pub polygon_even_odd : (o : Overlay) → IsPlanar o.edges → AreDistinct o.edges → (passes : HalfEdge → Bool) → IsPartTest o.edges passes
    → (shell : List HalfEdge) (holes : List (List HalfEdge)) → HasShellFirst o.edges passes shell holes
    → (p : Point) → IsOff o.edges p → holds (flat_map ring_edges (map points_of (shell ∷ holes))) p ≡ is_in_polygon (map points_of (shell ∷ holes)) p
polygon_even_odd o planar distinct passes part shell holes first p off =
    ap (λ es. holds es p) (all_edges o.edges passes (shell ∷ holes) (is_ring o.edges passes shell holes first))
    ∙ even_odd o.edges planar distinct passes part shell holes first.rings first.side first.among first.inside first.held p off
    ∙ sym (within_is o.edges passes shell holes first p)

module _ (o : Overlay) (regions : AreRegions o.edges o.numbers) (inside : ℕ → Bool) (passes : HalfEdge → Bool) (tells : TellsInside o inside passes) (p : Point) (g : ℕ) (own : IsRegionOf o.edges p g) where
  -- a half-edge with the point's region on its left passes where that is inside
  passes_is : (h : HalfEdge) → Contains o.edges h.edge → Joined o.edges p (left h) → passes h ≡ inside g
  passes_is h has j =
      let n = on_left o regions inside passes tells h has in
      n.1.told ∙ ap inside (one_region o.edges (left h) n.0 g n.1.own (region-joined o.edges p (left h) g j own))

  inside_is : IsInPart o.edges passes p → inside g ≡ true
  inside_is (h, has, pass, j) = sym (passes_is h has j) ∙ pass

  in_part : inside g ≡ true → IsInPart o.edges passes p
  in_part is =
      let found = side_half_edge o.edges g own.joined.at own.joined.side in
      let h = found.0 in
      let j = subst (Joined o.edges p) (sym found.1.point) own.joined.joined in
      (h, found.1.among, passes_is h found.1.among j ∙ is, j)

pub polygon_points : (o : Overlay) → IsPlanar o.edges → AreDistinct o.edges → AreRegions o.edges o.numbers → (inside : ℕ → Bool) (passes : HalfEdge → Bool) → TellsInside o inside passes → IsPartTest o.edges passes
    → (shell : List HalfEdge) (holes : List (List HalfEdge)) → HasShellFirst o.edges passes shell holes
    → (p : Point) → IsOff o.edges p → (g : ℕ) → IsRegionOf o.edges p g → is_in_polygon (map points_of (shell ∷ holes)) p ≡ inside g
polygon_points o planar distinct regions inside passes tells part shell holes first p off g own =
    let both = in_part_within o.edges planar distinct passes part shell holes first.rings first.side first.among first.inside first.held p off in
    within_is o.edges passes shell holes first p
    ∙ same_tests (is_within shell holes p) (inside g)
    (λ t. inside_is o regions inside passes tells p g own (both.1 t))
    (λ t. both.0 (in_part o regions inside passes tells p g own t))
