-- Edges that bound what room the points of a block can have: one alone, or two that face each other.
use Rattle.std.specs.Prelude.{◌≡◌, ℕ, ◌*◌, List, pos, neg_ℤ, ℤ, ◌+ℤ◌, ◌*ℤ◌, ◌≤ℤ◌, ◌<ℤ◌}
use Rattle.cov_types.specs.declared.coord.Coord.{Coord}
use Rattle.cov_types.specs.declared.seg.Seg.{Seg}
use Rattle.plane.specs.Length.{edge_length}
use Rattle.plane.specs.Region.{IsRegionOf}
use Rattle.plane.specs.Segment.{upper, lower}
use Rattle.distance_laws.specs.Room.{doubled, foot, half_side, squared_length}

-- the foot of c/2 is inside the edge
pub record IsBeside (c : Coord) (e : Seg) : Type 0 where
  pub after_lo : pos 0 <ℤ foot c e
  pub before_hi : foot c e <ℤ (pos 2 *ℤ squared_length e)

-- how far c/2 is on the side k of the edge's line, 1 above and -1 below: twice the distance, times the edge's length
abbrev pub depth : ℤ → Coord → Seg → ℤ
depth k c e = k *ℤ half_side c e

-- a grid point on the side k of the edge's line with room w from the line is m deep or more
abbrev pub IsLeastDepth : ℕ → Seg → ℤ → Type 0
IsLeastDepth w e m = (k : ℤ) (q : Coord) → k *ℤ k ≡ pos 1 → pos 0 <ℤ depth k (doubled q) e → (pos (w * w) *ℤ squared_length e) ≤ℤ (half_side (doubled q) e *ℤ half_side (doubled q) e) → m ≤ℤ depth k (doubled q) e

-- c/2 is less than m deep on the side k of the edge
pub record IsShallow (k : ℤ) (e : Seg) (m : ℤ) (c : Coord) : Type 0 where
  pub beside : IsBeside c e
  pub shallow : depth k c e <ℤ m

-- two numbers, one for each of two edges, each times the length of the other edge in 1/256 units, rounded down
abbrev pub both : Seg → Seg → ℤ → ℤ → ℤ
both e f j i = (pos (edge_length f) *ℤ j) +ℤ (pos (edge_length e) *ℤ i)

-- c/2 is between two edges that face each other, the region being on the side k of e and on the side l of f: its depths add up to more than 0, and to less than m and n do
pub record AreFacing (k : ℤ) (e : Seg) (m l : ℤ) (f : Seg) (n : ℤ) (c : Coord) : Type 0 where
  pub beside_first : IsBeside c e
  pub beside_second : IsBeside c f
  pub close : both e f (depth k c e) (depth l c f) <ℤ both e f m n
  pub over_first : pos 0 <ℤ (both e f (depth k c e) (depth l c f) +ℤ depth l c f)
  pub over_second : pos 0 <ℤ (both e f (depth k c e) (depth l c f) +ℤ depth k c e)

-- k is 1 or -1, and the region is on the side k of the edge alone, if on any
pub record IsFront (edges : List Seg) (r : ℕ) (k : ℤ) (e : Seg) : Type 0 where
  pub unit : k *ℤ k ≡ pos 1
  pub above : IsRegionOf edges (upper e) r → k ≡ pos 1
  pub below : IsRegionOf edges (lower e) r → k ≡ neg_ℤ (pos 1)
