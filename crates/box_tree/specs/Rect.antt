-- Boxes with their sides along the axes.
use Rattle.std.specs.Prelude.{ℤ, Bool, ◌&&◌, ◌≤ℤ◌, int_le}
use Rattle.std.specs.Int.{int_min, int_max}
use Rattle.std.proofs.Common.{arith}
use Rattle.std.proofs.lemmas.Int.{ints, clamps}
use Rattle.integer_laws.proofs.Compare.{le_refl}
use Rattle.cov_types.specs.declared.coord.Coord.{Coord}
use Rattle.cov_types.specs.declared.seg.Seg.{Seg}
use Rattle.box_tree.specs.declared.rect.Rect.{Rect}

-- the lesser of two numbers is at most the greater
pub lesser_first : (a b : ℤ) → int_min a b ≤ℤ int_max a b
lesser_first a b = omega (arith, ints, clamps)

-- the least box that has both points
abbrev pub spanned : Coord → Coord → Rect
spanned a b = record { lo = record { x = int_min a.x b.x; y = int_min a.y b.y }; hi = record { x = int_max a.x b.x; y = int_max a.y b.y }; across = lesser_first a.x b.x; upright = lesser_first a.y b.y }

-- the box of one point
abbrev pub box_of_point : Coord → Rect
box_of_point p = record { lo = p; hi = p; across = le_refl p.x; upright = le_refl p.y }

-- the least box that has both ends of the segment
abbrev pub box_of_segment : Seg → Rect
box_of_segment s = spanned s.lo s.hi

-- a is within b: each point of a is one of b
pub record IsInside (a b : Rect) : Type 0 where
  pub left : b.lo.x ≤ℤ a.lo.x
  pub right : a.hi.x ≤ℤ b.hi.x
  pub bottom : b.lo.y ≤ℤ a.lo.y
  pub top : a.hi.y ≤ℤ b.hi.y

-- the closed boxes have a point in common
abbrev pub is_touching : Rect → Rect → Bool
is_touching a b = int_le a.lo.x b.hi.x && int_le b.lo.x a.hi.x && int_le a.lo.y b.hi.y && int_le b.lo.y a.hi.y
