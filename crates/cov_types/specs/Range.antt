-- The range of coordinates.
use Rattle.std.specs.Prelude.{◌≤ℤ◌, neg_ℤ}
use Rattle.cov_types.specs.declared.coord.TheConstants.{LIMIT}
use Rattle.cov_types.specs.declared.coord.Coord.{Coord}
use Rattle.cov_types.specs.declared.seg.Seg.{Seg}

-- both numbers of the coordinate lie from -LIMIT to LIMIT
pub record IsInRange (c : Coord) : Type 0 where
  pub left : (neg_ℤ LIMIT) ≤ℤ c.x
  pub right : c.x ≤ℤ LIMIT
  pub bottom : (neg_ℤ LIMIT) ≤ℤ c.y
  pub top : c.y ≤ℤ LIMIT

-- both ends of the segment are in range
pub record IsSegInRange (s : Seg) : Type 0 where
  pub lo : IsInRange s.lo
  pub hi : IsInRange s.hi
