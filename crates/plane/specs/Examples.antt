-- Examples of the definitions of the plane, with numbers.
use Rattle.std.specs.Prelude.{◌≡◌, ℕ, ◌*◌, ◌+◌, ◌^◌, true, false, List, [], ◌∷◌, count_by, pos, ◌<ℤ◌, IsTrue}
use Rattle.std.proofs.Common.{lit≤, refl}
use Rattle.cov_types.specs.declared.coord.Coord.{Coord}
use Rattle.cov_types.specs.declared.seg.Seg.{Seg}
use Rattle.cov_types.specs.Coord.{is_before}
use Rattle.plane.specs.declared.contact.Contact.TheVariants.{Apart, SameSegment, CommonEnd, Bad}
use Rattle.plane.specs.declared.contact.Badness.TheVariants.{Cross, Touch, Overlap}
use Rattle.plane.specs.Point.{Point, at_coord}
use Rattle.plane.specs.Segment.{upper, lower}
use Rattle.plane.specs.Ray.{is_over}
use Rattle.plane.specs.Parity.{holds}
use Rattle.plane.specs.Contact.{IsContact}

-- a grid point with natural coordinates
abbrev pub grid : ℕ → ℕ → Coord
grid x y = record { x = pos x; y = pos y }

-- the segment between two grid points, the lesser first
abbrev pub segment : (a b : Coord) → IsTrue (is_before a b) → Seg
segment a b before = record { lo = a; hi = b; ordered = before }

-- the sides of a square of size 10
abbrev pub bottom : Seg
bottom = segment (grid 0 0) (grid 10 0) refl

-- its right side
abbrev pub right : Seg
right = segment (grid 10 0) (grid 10 10) refl

-- its top side
abbrev pub top : Seg
top = segment (grid 0 10) (grid 10 10) refl

-- its left side
abbrev pub left : Seg
left = segment (grid 0 0) (grid 0 10) refl

-- all four, in this order
abbrev pub square : List Seg
square = bottom ∷ right ∷ top ∷ left ∷ []

-- a roof of two edges with the ridge (10, 5)
abbrev pub roof : List Seg
roof = segment (grid 0 0) (grid 10 5) refl ∷ segment (grid 10 5) (grid 20 0) refl ∷ []

-- the point at the height 4 on the ray through the ridge: (10 + 2^-30, 4)
abbrev pub below_ridge : Point
below_ridge = record { x = pos (10 * 2 ^ 30 + 1); y = pos (4 * 2 ^ 30); d = 2 ^ 30; positive = lit≤ tt }

-- which edges are over which points
pub record OverExamples : Type 0 where
  pub far_above : is_over top (at_coord (grid 3 2)) ≡ true
  pub on_the_edge : is_over bottom (at_coord (grid 0 0)) ≡ false
  pub ray_leans_left : is_over (segment (grid 0 5) (grid 3 5) refl) (at_coord (grid 3 0)) ≡ true
  pub at_the_greater_end : is_over (segment (grid 0 5) (grid 3 5) refl) (at_coord (grid 3 5)) ≡ false
  pub ridge_counts_once : count_by (λ e. is_over e below_ridge) roof ≡ 1

-- what a square holds: of the side points of its sides, just the inner ones
pub record SquareExamples : Type 0 where
  pub centre : holds square (at_coord (grid 5 5)) ≡ true
  pub far_out : holds square (at_coord (grid (2 ^ 30) 0)) ≡ false
  pub upper_bottom : holds square (upper bottom) ≡ true
  pub lower_bottom : holds square (lower bottom) ≡ false
  pub upper_top : holds square (upper top) ≡ false
  pub lower_top : holds square (lower top) ≡ true
  pub upper_left : holds square (upper left) ≡ false
  pub lower_left : holds square (lower left) ≡ true
  pub upper_right : holds square (upper right) ≡ true
  pub lower_right : holds square (lower right) ≡ false
  pub upper_left_at_smaller_x : (upper left).x <ℤ pos 0

-- how segments meet
pub record ContactExamples : Type 0 where
  pub apart : IsContact bottom top Apart
  pub same : IsContact bottom bottom SameSegment
  pub common_end : IsContact bottom right CommonEnd
  pub straight_on : IsContact (segment (grid 0 0) (grid 4 0) refl) (segment (grid 4 0) (grid 6 0) refl) CommonEnd
  pub cross : IsContact (segment (grid 0 0) (grid 1 1) refl) (segment (grid 0 1) (grid 1 0) refl) (Bad Cross)
  pub touch : IsContact (segment (grid 0 0) (grid 4 0) refl) (segment (grid 2 0) (grid 2 5) refl) (Bad Touch)
  pub overlap : IsContact (segment (grid 0 0) (grid 4 0) refl) (segment (grid 2 0) (grid 6 0) refl) (Bad Overlap)
