use Rattle.std.proofs.Common.{length, arith, sym, subst, []}
use Rattle.std.proofs.Common.{◌≡◌, ◌∙◌, sym, subst, ℕ, ◌<◌, List, [], All, Option, None}
use Rattle.std.specs.Global.{Vec}
use Rattle.cov_types.specs.declared.seg.Seg.{Seg}
use Rattle.plane.specs.Region.{IsOuterRegion}
use Rattle.sector_laws.specs.Sector.{IsPlanar, AreDistinct}
use Rattle.arrangement.specs.Overlay.{Overlay}
use Rattle.region_laws.proofs.Exists.{regions_exist}
use Rattle.cov_build.specs.Boundaries.{AreBoundaries}
use Rattle.cov_build.specs.Members.{AreListsApart, AreAllPartPolygons}
use Rattle.cov_build.specs.Rings.{IsBoundary}
use Rattle.cov_build.specs.Owners.{owner_in}
use Rattle.cov_build.specs.declared.boundary.BoundaryEdge.{BoundaryEdge}
use Rattle.cov_build.specs.declared.part.Part.{Part}
use Rattle.cov_build.proofs.BuiltPolygons.{built_polygons, built_formed}
use Rattle.cov_build.proofs.PartLists.{lists_bound, lists_apart}
use Rattle.cov_build.proofs.build.polygons.Goals as goal

pub polygons_of_parts-requires-clause-boundaries : goal.polygons_of_parts-requires-clause-boundaries
polygons_of_parts-requires-clause-boundaries c =
    let a = c.args.a.now in
    let (numbers, regions) = regions_exist a c.edges-edges.ensures.planar c.edges-edges.ensures.distinct in
    let o : Overlay = record { edges = a; uses = []; members = 0; numbers = numbers } in
    let are = c.in_ok-parts.ensures.parts o (sym c.requires.regions) regions in
    let bound : AreBoundaries c.in_ok-parts.parts.items a c.in_ok-boundaries.boundaries.items = subst (λ (es : List Seg). AreBoundaries c.in_ok-parts.parts.items es c.in_ok-boundaries.boundaries.items) c.edges-edges.ensures.edges
    (subst (λ (ps : List (Option Part)). AreBoundaries ps c.edges-edges.result.now c.in_ok-boundaries.boundaries.items) c.deref.ensures.value c.in_ok-boundaries.ensures) in
    subst (λ (ls : List (Vec BoundaryEdge)). All (λ (v : Vec BoundaryEdge). 0 < v.len → IsBoundary v.items) ls) (sym c.deref-2.ensures.value)
    (lists_bound o c.edges-edges.ensures.planar c.edges-edges.ensures.distinct regions (owner_in c.args.owners.now) c.in_ok-parts.parts.items are c.in_ok-boundaries.boundaries.items bound)

pub polygons_of_parts-requires-clause-apart : goal.polygons_of_parts-requires-clause-apart
polygons_of_parts-requires-clause-apart c =
    let a = c.args.a.now in
    let (numbers, regions) = regions_exist a c.edges-edges.ensures.planar c.edges-edges.ensures.distinct in
    let o : Overlay = record { edges = a; uses = []; members = 0; numbers = numbers } in
    let are = c.in_ok-parts.ensures.parts o (sym c.requires.regions) regions in
    let bound : AreBoundaries c.in_ok-parts.parts.items a c.in_ok-boundaries.boundaries.items = subst (λ (es : List Seg). AreBoundaries c.in_ok-parts.parts.items es c.in_ok-boundaries.boundaries.items) c.edges-edges.ensures.edges
    (subst (λ (ps : List (Option Part)). AreBoundaries ps c.edges-edges.result.now c.in_ok-boundaries.boundaries.items) c.deref.ensures.value c.in_ok-boundaries.ensures) in
    subst AreListsApart (sym c.deref-2.ensures.value)
    (lists_apart o c.edges-edges.ensures.planar c.edges-edges.ensures.distinct regions (owner_in c.args.owners.now) c.in_ok-parts.parts.items are c.in_ok-boundaries.boundaries.items bound)

pub returns-clause-polygons : goal.returns-clause-polygons
returns-clause-polygons c = λ o same regions.
    let planar : IsPlanar o.edges = subst IsPlanar (sym same) c.edges-edges.ensures.planar in
    let distinct : AreDistinct o.edges = subst AreDistinct (sym same) c.edges-edges.ensures.distinct in
    let owned = c.args.owners.now in
    let parts = c.in_ok-parts.parts.items in
    let lists = c.in_ok-boundaries.boundaries.items in
    let are = c.in_ok-parts.ensures.parts o (same ∙ sym c.requires.regions) regions in
    let bound : AreBoundaries parts o.edges lists = subst (λ (es : List Seg). AreBoundaries parts es lists) (c.edges-edges.ensures.edges ∙ sym same)
    (subst (λ (ps : List (Option Part)). AreBoundaries ps c.edges-edges.result.now lists) c.deref.ensures.value c.in_ok-boundaries.ensures) in
    let outer : (n : ℕ) → IsOuterRegion o.edges n → owner_in owned n ≡ None = λ n is. c.requires.outer n (subst (λ (es : List Seg). IsOuterRegion es n) same is) in
    let all : AreAllPartPolygons lists owned (length lists) c.args.members c.in_ok-unsorted.unsorted.items = subst (λ (ls : List (Vec BoundaryEdge)). AreAllPartPolygons ls owned (length ls) c.args.members c.in_ok-unsorted.unsorted.items) c.deref-2.ensures.value c.in_ok-unsorted.ensures in
    built_polygons o planar distinct regions owned parts are lists bound outer c.args.members c.in_ok-unsorted.unsorted.items c.in_ok-members.members.items all c.in_ok-members.ensures

pub returns-clause-formed : goal.returns-clause-formed
returns-clause-formed c =
    let a = c.args.a.now in
    let planar = c.edges-edges.ensures.planar in
    let distinct = c.edges-edges.ensures.distinct in
    let (numbers, regions) = regions_exist a planar distinct in
    let o : Overlay = record { edges = a; uses = []; members = 0; numbers = numbers } in
    let owned = c.args.owners.now in
    let parts = c.in_ok-parts.parts.items in
    let lists = c.in_ok-boundaries.boundaries.items in
    let are = c.in_ok-parts.ensures.parts o (sym c.requires.regions) regions in
    let bound : AreBoundaries parts a lists = subst (λ (es : List Seg). AreBoundaries parts es lists) c.edges-edges.ensures.edges
    (subst (λ (ps : List (Option Part)). AreBoundaries ps c.edges-edges.result.now lists) c.deref.ensures.value c.in_ok-boundaries.ensures) in
    let all : AreAllPartPolygons lists owned (length lists) c.args.members c.in_ok-unsorted.unsorted.items = subst (λ (ls : List (Vec BoundaryEdge)). AreAllPartPolygons ls owned (length ls) c.args.members c.in_ok-unsorted.unsorted.items) c.deref-2.ensures.value c.in_ok-unsorted.ensures in
    built_formed o planar distinct regions owned parts are lists bound c.requires.outer c.args.members c.in_ok-unsorted.unsorted.items c.in_ok-members.members.items (omega arith) all c.in_ok-members.ensures
