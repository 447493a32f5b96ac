-- A square from border to border of the range: the midpoints of its sides on the borders have the sweep values of corners.
use Rattle.std.specs.Prelude.{◌≡◌, ◌^◌, true, false, ℤ, pos, neg_ℤ, ◌*ℤ◌, List, [], ◌∷◌, refl}
use Rattle.cov_types.specs.declared.coord.Coord.{Coord}
use Rattle.cov_types.specs.declared.seg.Seg.{Seg}
use Rattle.plane.specs.Point.{at_coord}
use Rattle.plane.specs.Segment.{midpoint}
use Rattle.plane.specs.Ray.{sweep, is_over}
use Rattle.plane.specs.Parity.{holds}
use Rattle.plane.specs.Examples.{segment}
use Rattle.crossing_laws.specs.EitherEnd.{is_over_to_hi, holds_to_hi}

-- the grid point (x, -2^28)
abbrev pub at_bottom : ℤ → Coord
at_bottom x = record { x = x; y = neg_ℤ (pos (2 ^ 28)) }

-- the grid point (x, 2^28)
abbrev pub at_top : ℤ → Coord
at_top x = record { x = x; y = pos (2 ^ 28) }

-- the square of the points with x from 0 to 1, by its lower, right, upper and left side
abbrev pub lower_side : Seg
lower_side = segment (at_bottom (pos 0)) (at_bottom (pos 1)) refl

-- its right side
abbrev pub right_side : Seg
right_side = segment (at_bottom (pos 1)) (at_top (pos 1)) refl

-- its upper side
abbrev pub upper_side : Seg
upper_side = segment (at_top (pos 0)) (at_top (pos 1)) refl

-- its left side
abbrev pub left_side : Seg
left_side = segment (at_bottom (pos 0)) (at_top (pos 0)) refl

-- all four
abbrev pub tall_square : List Seg
tall_square = lower_side ∷ right_side ∷ upper_side ∷ left_side ∷ []

-- the midpoint of each of the two sides on the borders has the sweep value of a corner on the other, and over that of the lower one either the upper side counts or the left
pub record BorderExamples : Type 0 where
  pub lower_midpoint : sweep (midpoint lower_side) ≡ sweep (at_coord (at_top (pos 0))) *ℤ pos 2
  pub upper_midpoint : sweep (midpoint upper_side) ≡ sweep (at_coord (at_bottom (pos 1))) *ℤ pos 2
  pub upper_over : is_over upper_side (midpoint lower_side) ≡ true
  pub left_over : is_over left_side (midpoint lower_side) ≡ false
  pub upper_over_to_hi : is_over_to_hi upper_side (midpoint lower_side) ≡ false
  pub left_over_to_hi : is_over_to_hi left_side (midpoint lower_side) ≡ true
  pub held : holds tall_square (midpoint lower_side) ≡ true
  pub held_to_hi : holds_to_hi tall_square (midpoint lower_side) ≡ true
