-- The numbers of the regions, in a table.
use Rattle.std.specs.Prelude.{◌≡◌, ℕ, ◌*◌, ◌<◌, ◌≤◌, List, [], length, Some, slice_get, slice_index, Option, MatchOption}
use Rattle.cov_types.specs.declared.seg.Seg.{Seg}
use Rattle.plane.specs.Point.{Point}
use Rattle.plane.specs.Region.{IsOuter, IsRegionOf, IsOuterRegion, AreRegions}
use Rattle.sector_laws.specs.Sector.{IsPlanar, AreDistinct}
use Rattle.face_walk.specs.declared.cycle.Cycle.{Cycle}

-- for each side the least side of the cycle that its cycle is connected with
pub record AreLeastSides (of : List ℕ) (list : List Cycle) (connected table : List ℕ) : Type 0 where
  pub count : length table ≡ length of
  pub each : (n : ℕ) (c : Cycle) → n < length of → slice_get list (slice_index connected (slice_index of n)) ≡ Some c → slice_index table n ≡ c.least

-- the region is outer, and that of each outer point
pub record IsOutermost (edges : List Seg) (r : ℕ) : Type 0 where
  pub outer : IsOuterRegion edges r
  pub region : (p : Point) → IsOuter edges p → IsRegionOf edges p r

-- the table has the region of each side of distinct planar edges, and beside it stands the outer region, if there is an edge
pub record IsNumberTable (edges : List Seg) (table : List ℕ) (outer : Option ℕ) : Type 0 where
  pub planar : IsPlanar edges
  pub distinct : AreDistinct edges
  pub regions : AreRegions edges table
  pub no_later : (n : ℕ) → n < 2 * length edges → slice_index table n ≤ n
  pub outermost : MatchOption outer (edges ≡ []) (IsOutermost edges)
