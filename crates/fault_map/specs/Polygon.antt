-- The polygon of one region, and the polygons of several.
use Rattle.std.specs.Prelude.{◌≡◌, ℕ, ◌==◌, List, length, Option, Some, slice_get}
use Rattle.std.specs.List.{AllZip}
use Rattle.cov_types.specs.declared.coord.Coord.{Coord}
use Rattle.cov_types.specs.declared.seg.Seg.{Seg}
use Rattle.plane.specs.Region.{IsOuterRegion, AreRegions}
use Rattle.arrangement.specs.Overlay.{Overlay, IsRegion}
use Rattle.sound_polygons.specs.Cleaned.{IsPolyCanonical}
use Rattle.sound_polygons.specs.Parts.{IsSound}

-- the polygon is sound for the region alone, and canonical
pub record IsRegionPolygon (o : Overlay) (r : ℕ) (rings : List (List Coord)) : Type 0 where
  pub sound : IsSound o (λ g. g == r) rings
  pub canonical : IsPolyCanonical rings

-- a region that is not outer
pub record IsInner (edges : List Seg) (r : ℕ) : Type 0 where
  pub region : IsRegion edges r
  pub not_outer : ¬ IsOuterRegion edges r

-- the polygons are those of the regions between the edges, one each, in their order
pub record ArePolygonsOfEach (edges : List Seg) (regions : List ℕ) (polygons : List (List (List Coord))) : Type 0 where
  pub count : length polygons ≡ length regions
  pub each : (o : Overlay) → o.edges ≡ edges → AreRegions o.edges o.numbers → AllZip (IsRegionPolygon o) regions polygons

-- the owner of a region is its place among these regions, and no other region has one
pub record AreOwnersByPlace (regions : List ℕ) (owners : ℕ → Option ℕ) : Type 0 where
  pub listed : (place r : ℕ) → slice_get regions place ≡ Some r → owners r ≡ Some place
  pub owned : (place r : ℕ) → owners r ≡ Some place → slice_get regions place ≡ Some r
