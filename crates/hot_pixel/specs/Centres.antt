-- The centres of hot pixels, and where they come from.
use Rattle.std.specs.Prelude.{◌≡◌, ℕ, ◌<◌, ◌≤◌, ◌⊎◌, ◌↔◌, List, length, slice_get, Some, All, Any, Contains}
use Rattle.cov_types.specs.Range.{IsInRange}
use Rattle.cov_types.specs.declared.coord.Coord.{Coord}
use Rattle.cov_types.specs.declared.seg.Seg.{Seg}
use Rattle.plane.specs.Point.{Point}
use Rattle.plane.specs.Snapping.{IsInPixel, IsHot, MeetsPixel}
use Rattle.grid_pred.specs.Crossing.{IsCrossing}

-- the centres are those of the hot pixels
pub record AreHotCentres (segs : List Seg) (centres : List Coord) : Type 0 where
  pub exact : (r : Coord) → Contains centres r ↔ IsHot segs r
  pub in_range : All IsInRange centres

-- the later list has what the earlier has, and the centres of which P holds
abbrev pub Gains : List Coord → List Coord → (Coord → Type 0) → Type 0
Gains earlier later P = (r : Coord) → Contains later r ↔ (Contains earlier r ⊎ P r)

-- r is an end of the segment
abbrev pub HasEnd : Seg → Coord → Type 0
HasEnd s r = (s.lo ≡ r) ⊎ (s.hi ≡ r)

-- two segments cross in the pixel of r
abbrev pub CrossIn : Seg → Seg → Coord → Type 0
CrossIn s t r = (p : Point) × (IsCrossing s t p × IsInPixel p r)

-- the segment at i crosses that at k, which stands before it, in the pixel of r
pub record CrossAt (segs : List Seg) (i k : ℕ) (r : Coord) : Type 0 where
  pub earlier : k < i
  pub s : Seg
  pub t : Seg
  pub at_s : slice_get segs i ≡ Some s
  pub at_t : slice_get segs k ≡ Some t
  pub cross : CrossIn s t r

-- a segment at a place from first to before past crosses one that stands before it, in the pixel of r
pub record HasCrossing (segs : List Seg) (first past : ℕ) (r : Coord) : Type 0 where
  pub i : ℕ
  pub k : ℕ
  pub from : first ≤ i
  pub to : i < past
  pub cross : CrossAt segs i k r

-- the centre at k is r, and the segment meets its pixel
pub record HasMetCentre (s : Seg) (centres : List Coord) (r : Coord) (k : ℕ) : Type 0 where
  pub at : slice_get centres k ≡ Some r
  pub met : MeetsPixel s r

-- of the centres with the numbers near, those whose pixels the segment meets
abbrev pub AreMet : Seg → List Coord → List ℕ → List Coord → Type 0
AreMet s centres near met = (r : Coord) → Contains met r ↔ Any (HasMetCentre s centres r) near

-- all those of the centres whose pixels the segment meets
abbrev pub AreAllMet : Seg → List Coord → List Coord → Type 0
AreAllMet s centres met = (r : Coord) → Contains met r ↔ (Contains centres r × MeetsPixel s r)
