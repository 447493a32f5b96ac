-- Rational points and vectors of the code, whose numbers are small enough for 64 bits.
use Rattle.std.specs.Prelude.{◌≡◌, ◌^◌, pos}
use Rattle.integer_laws.specs.Bound.{IsWithin}
use Rattle.grid_pred.specs.declared.ray.RationalPoint.{RationalPoint}
use Rattle.grid_pred.specs.declared.ray.Vector.{Vector}
use Rattle.plane.specs.Point.{Point}

-- the numerators and the denominator of a midpoint of coordinates in range
pub record IsSmallPoint (p : RationalPoint) : Type 0 where
  pub x : IsWithin (2 ^ 29) p.x
  pub y : IsWithin (2 ^ 29) p.y
  pub d : IsWithin 2 p.d

-- the vector from a coordinate in range to such a point
pub record IsSmallVector (v : Vector) : Type 0 where
  pub x : IsWithin (2 ^ 30) v.x
  pub y : IsWithin (2 ^ 30) v.y

-- the numbers of p are those of q
pub record Writes (p : RationalPoint) (q : Point) : Type 0 where
  pub x : p.x ≡ q.x
  pub y : p.y ≡ q.y
  pub d : p.d ≡ pos q.d
