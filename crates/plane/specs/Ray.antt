-- The sweep value, and the ray along which it is constant: it leans by one unit to the left in 2^30 upwards.
use Rattle.std.specs.Prelude.{◌≡◌, ◌^◌, Bool, ◌&&◌, not, ℤ, pos, ◌+ℤ◌, ◌*ℤ◌, ◌<ℤ◌, int_lt}
use Rattle.cov_types.specs.declared.seg.Seg.{Seg}
use Rattle.plane.specs.Point.{Point, at_coord, SamePoint}
use Rattle.plane.specs.Segment.{IsOn, side}

-- 2^30·x + y, times the point's denominator
unfoldable pub sweep : Point → ℤ
sweep p = (pos (2 ^ 30) *ℤ p.x) +ℤ p.y

-- the sweep value of p is below that of q
abbrev pub sweep_below : Point → Point → Bool
sweep_below p q = int_lt (sweep p *ℤ pos q.d) (sweep q *ℤ pos p.d)

-- the sweep value grows from lo to hi: so it does on each segment in range
abbrev pub Rises : Seg → Type 0
Rises s = sweep (at_coord s.lo) <ℤ sweep (at_coord s.hi)

-- the edge is over p: lo is not past p and hi is, and p is strictly below the edge along the ray
abbrev pub is_over : Seg → Point → Bool
is_over e p = not (sweep_below p (at_coord e.lo)) && sweep_below p (at_coord e.hi) && int_lt (side e p) (pos 0)

-- r is on the ray that goes from p along (-1, 2^30), and beyond p
pub record IsBeyond (p r : Point) : Type 0 where
  pub on_line : sweep r *ℤ pos p.d ≡ sweep p *ℤ pos r.d
  pub further : (r.x *ℤ pos p.d) <ℤ (p.x *ℤ pos r.d)

-- the ray from p meets the edge beyond p, at a point other than hi
pub record MeetsRay (e : Seg) (p : Point) : Type 0 where
  pub at : Point
  pub on_edge : IsOn e at
  pub beyond : IsBeyond p at
  pub before_hi : SamePoint at (at_coord e.hi) → ⊥
