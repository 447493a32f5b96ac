-- Gaps, and how narrow they are: the clearance of a region.
use Rattle.std.specs.Prelude.{◌≡◌, ℕ, ◌≤◌, List, [], Contains}
use Rattle.cov_types.specs.declared.coord.Coord.{Coord}
use Rattle.cov_types.specs.declared.seg.Seg.{Seg}
use Rattle.distance_laws.specs.Room.{HasRoom}
use Rattle.plane.specs.Point.{at_coord}
use Rattle.plane.specs.Region.{IsOuterRegion, IsRegionOf}
use Rattle.arrangement.specs.Overlay.{Overlay, IsRegion, label_of}

-- a gap: a region that is not outer and that no member holds
pub record IsGap (o : Overlay) (r : ℕ) : Type 0 where
  pub region : IsRegion o.edges r
  pub not_outer : ¬ IsOuterRegion o.edges r
  pub empty : label_of o r ≡ []

-- some grid point of the region has room w from every edge
pub record HasRoomWithin (edges : List Seg) (r w : ℕ) : Type 0 where
  pub at : Coord
  pub within : IsRegionOf edges (at_coord at) r
  pub room : (e : Seg) → Contains edges e → HasRoom at w e

-- the clearance of a region: the greatest w from 1 on for which it has room, and 0 where there is none
pub record IsClearance (edges : List Seg) (r w : ℕ) : Type 0 where
  pub reached : 1 ≤ w → HasRoomWithin edges r w
  pub greatest : (v : ℕ) → 1 ≤ v → HasRoomWithin edges r v → v ≤ w

-- a region is narrow at w from 1 on where it has no room w: its clearance is below w
pub record IsNarrow (edges : List Seg) (r w : ℕ) : Type 0 where
  pub wide : 1 ≤ w
  pub no_room : ¬ HasRoomWithin edges r w
