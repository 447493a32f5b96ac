-- The boxes of edges in a tree, and what a search among them for the nearest edge below a point knows.
use Rattle.std.specs.Prelude.{◌≡◌, ℕ, ◌<◌, ◌^◌, ℤ, pos, neg_ℤ, ◌+ℤ◌, ◌*ℤ◌, ◌≤ℤ◌, ◌<ℤ◌, Bool, ◌&&◌, int_le, int_lt, List, length, All, Contains, Option, Some, slice_get, IsTrue}
use Rattle.cov_types.specs.Range.{IsInRange}
use Rattle.cov_types.specs.declared.coord.Coord.{Coord}
use Rattle.cov_types.specs.declared.seg.Seg.{Seg}
use Rattle.plane.specs.Point.{Point, at_coord}
use Rattle.sector_laws.specs.Sector.{IsPlanar}
use Rattle.plane.specs.Segment.{side}
use Rattle.region_laws.specs.Below.{is_under, sweep_rise}
use Rattle.box_tree.specs.Curve.{curve_of}
use Rattle.box_tree.specs.Rect.{box_of_segment}
use Rattle.box_tree.specs.declared.rect.Rect.{Rect}
use Rattle.face_walk.specs.Nearest.{IsCandidate, IsSettled, IsAhead}

-- where the edge stands along a curve that on the whole leads down: twice its midpoint does, turned upside down
abbrev pub curve_down : Seg → ℕ
curve_down e = curve_of (record { x = e.lo.x +ℤ e.hi.x; y = neg_ℤ (e.lo.y +ℤ e.hi.y) })

-- the places are those of the first edges of a list, so many of them, in some order
pub record AreFirstPlaces (count : ℕ) (places : List ℕ) : Type 0 where
  pub within : All (λ place. place < count) places
  pub each : (place : ℕ) → place < count → Contains places place

-- the boxes are those of the edges at these places
pub record AreBoxesAt (edges : List Seg) (places : List ℕ) (boxes : List Rect) : Type 0 where
  pub count : length boxes ≡ length places
  pub each : (k place : ℕ) (e : Seg) → slice_get places k ≡ Some place → slice_get edges place ≡ Some e → slice_get boxes k ≡ Some (box_of_segment e)

-- the boxes are those of planar edges, all of them
pub record AreEdgeBoxes (edges : List Seg) (places : List ℕ) (boxes : List Rect) : Type 0 where
  pub planar : IsPlanar edges
  pub each : AreFirstPlaces (length edges) places
  pub at_places : AreBoxesAt edges places boxes

-- the box has points of the column of p, some below p and some that are not below the row
abbrev pub is_in_reach : Coord → ℤ → Rect → Bool
is_in_reach p row b = ((int_le b.lo.x p.x && int_le p.x b.hi.x) && int_lt b.lo.y p.y) && int_le row b.hi.y

-- of the edges under p none that is wholly below the row is nearer than the nearest so far
abbrev pub IsFloor : List Seg → Point → Option ℕ → ℤ → Type 0
IsFloor edges p nearest row = (k : ℕ) (f : Seg) → slice_get edges k ≡ Some f → IsTrue (is_under f p) → f.lo.y <ℤ row → f.hi.y <ℤ row → IsAhead edges p nearest f

-- a search below a point in range: the nearest edge so far is under it, and the row is a floor
pub record IsSearchBelow (edges : List Seg) (p : Coord) (nearest : Option ℕ) (row : ℤ) : Type 0 where
  pub in_range : IsInRange p
  pub candidate : IsCandidate edges (at_coord p) nearest
  pub floor : IsFloor edges (at_coord p) nearest row

-- the edge of the box with this number is settled
abbrev pub IsBoxSettled : List Seg → List ℕ → Coord → Option ℕ → ℕ → Type 0
IsBoxSettled edges places p nearest k = (place : ℕ) → slice_get places k ≡ Some place → IsSettled edges (at_coord p) nearest place

-- from p down to where the ray meets e it is this many rows, rounded down: to there it is 2^30 times the turn over the rise
pub record IsRowsDown (e : Seg) (p : Coord) (rows : ℤ) : Type 0 where
  pub reached : (rows *ℤ sweep_rise e) ≤ℤ (pos (2 ^ 30) *ℤ side e (at_coord p))
  pub within : (pos (2 ^ 30) *ℤ side e (at_coord p)) <ℤ ((rows +ℤ pos 1) *ℤ sweep_rise e)
