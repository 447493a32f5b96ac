-- The laws of the polygon of a part.
use Rattle.std.specs.Prelude.{◌≡◌, ℕ, Bool, List, ◌∷◌, map, flat_map, All, IsTrue, Option, Some}
use Rattle.cov_types.specs.Coord.{is_before}
use Rattle.plane.specs.Joined.{IsOff}
use Rattle.plane.specs.Parity.{holds}
use Rattle.plane.specs.Point.{Point}
use Rattle.plane.specs.Region.{IsOuterRegion, IsRegionOf, AreRegions}
use Rattle.sector_laws.specs.Sector.{HalfEdge, origin, AreDistinct, IsPlanar}
use Rattle.arrangement.specs.Overlay.{Overlay}
use Rattle.shell_laws.specs.Laws.{HasShellFirst}
use Rattle.shell_laws.specs.Part.{IsPartTest}
use Rattle.sound_polygons.specs.Cleaned.{BeginsAtLeast}
use Rattle.sound_polygons.specs.Parts.{IsPartOf, ring_edges, IsSound, is_in_polygon}
use Rattle.part_polygons.specs.Inside.{TellsInside, points_of}

-- some test tells the half-edges with a region inside on their left
abbrev pub TestExistsLaw : Type 0
TestExistsLaw = (o : Overlay) → AreDistinct o.edges → (inside : ℕ → Bool) → (passes : HalfEdge → Bool) × TellsInside o inside passes

-- the half-edges with a part of an owner on their left are a part, where the owner does not have the outer region
abbrev pub PartTestLaw : Type 0
PartTestLaw = (o : Overlay) → AreRegions o.edges o.numbers → (inside : ℕ → Bool) (passes : HalfEdge → Bool) → TellsInside o inside passes
    → (owners : ℕ → Option ℕ) (i r : ℕ) → IsPartOf o owners i r inside → ((g : ℕ) → IsOuterRegion o.edges g → ¬ (owners g ≡ Some i)) → IsPartTest o.edges passes

-- the rings of a part, its shell first, are a polygon that is sound for it
abbrev pub SoundLaw : Type 0
SoundLaw = (o : Overlay) → IsPlanar o.edges → AreDistinct o.edges → (inside : ℕ → Bool) (passes : HalfEdge → Bool) → TellsInside o inside passes → IsPartTest o.edges passes
    → (shell : List HalfEdge) (holes : List (List HalfEdge)) → HasShellFirst o.edges passes shell holes → IsSound o inside (map points_of (shell ∷ holes))

-- off the edges the polygon has the points of the regions inside
abbrev pub PointLaw : Type 0
PointLaw = (o : Overlay) → IsPlanar o.edges → AreDistinct o.edges → AreRegions o.edges o.numbers → (inside : ℕ → Bool) (passes : HalfEdge → Bool) → TellsInside o inside passes → IsPartTest o.edges passes
    → (shell : List HalfEdge) (holes : List (List HalfEdge)) → HasShellFirst o.edges passes shell holes
    → (p : Point) → IsOff o.edges p → (g : ℕ) → IsRegionOf o.edges p g → is_in_polygon (map points_of (shell ∷ holes)) p ≡ inside g

-- and so do the edges of all its rings, by even-odd
abbrev pub PolygonEvenOddLaw : Type 0
PolygonEvenOddLaw = (o : Overlay) → IsPlanar o.edges → AreDistinct o.edges → (passes : HalfEdge → Bool) → IsPartTest o.edges passes
    → (shell : List HalfEdge) (holes : List (List HalfEdge)) → HasShellFirst o.edges passes shell holes
    → (p : Point) → IsOff o.edges p → holds (flat_map ring_edges (map points_of (shell ∷ holes))) p ≡ is_in_polygon (map points_of (shell ∷ holes)) p

-- a ring whose first half-edge leaves before each other one begins at its least point
abbrev pub BeginsLaw : Type 0
BeginsLaw = (h : HalfEdge) (way : List HalfEdge) → All (λ k. IsTrue (is_before (origin h) (origin k))) way → BeginsAtLeast (points_of (h ∷ way))
