-- The point in which two segments cross.
use Rattle.std.specs.Prelude.{pos, neg_ℤ, ◌*ℤ◌, ◌≤ℤ◌, ◌^◌}
use Rattle.integer_laws.proofs.Cast.{positive_natural}
use Rattle.cov_types.specs.declared.coord.TheConstants.{LIMIT}
use Rattle.cov_types.specs.declared.seg.Seg.{Seg}
use Rattle.plane.specs.Point.{Point}
use Rattle.plane.specs.Segment.{IsEnd}
use Rattle.plane.specs.Contact.{IsOnlyCommon}
use Rattle.grid_pred.specs.declared.cross.Cross.{Cross}

-- p is the only common point of the segments, and inside both
pub record IsCrossing (s t : Seg) (p : Point) : Type 0 where
  pub only : IsOnlyCommon s t p
  pub inside : ¬ IsEnd s p
  pub inside_other : ¬ IsEnd t p

-- the crossing as a rational point
abbrev pub at_cross : Cross → Point
at_cross c = let d = positive_natural c.den c.positive in record { x = c.num_x; y = c.num_y; d = d.0; positive = d.1 }

-- the point is in range, and its denominator is one of two segments in range
pub record IsCrossInRange (c : Cross) : Type 0 where
  pub small : c.den ≤ℤ pos (2 ^ 60)
  pub left : ((neg_ℤ LIMIT) *ℤ c.den) ≤ℤ c.num_x
  pub right : c.num_x ≤ℤ (LIMIT *ℤ c.den)
  pub bottom : ((neg_ℤ LIMIT) *ℤ c.den) ≤ℤ c.num_y
  pub top : c.num_y ≤ℤ (LIMIT *ℤ c.den)
