-- How a point lies to a segment along the ray.
use Rattle.cov_types.specs.declared.seg.Seg.{Seg}
use Rattle.plane.specs.Point.{Point}
use Rattle.plane.specs.Segment.{IsOn}
use Rattle.plane.specs.Ray.{IsBeyond}

-- p is strictly below the segment: the ray from p meets it beyond p
pub record LiesBelow (p : Point) (s : Seg) : Type 0 where
  pub at : Point
  pub on : IsOn s at
  pub beyond : IsBeyond p at

-- p is strictly above the segment: the ray from some point of it meets p beyond that point
pub record LiesAbove (p : Point) (s : Seg) : Type 0 where
  pub at : Point
  pub on : IsOn s at
  pub beyond : IsBeyond at p
