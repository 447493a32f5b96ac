-- A way round an island, and a triangle that keeps its inside from its outside.
use Rattle.std.specs.Prelude.{◌≡◌, ◌^◌, List, [], ◌∷◌, ◌++◌, reverse, pos, negsuc, refl}
use Rattle.cov_types.specs.declared.coord.Coord.{Coord}
use Rattle.cov_types.specs.declared.seg.Seg.{Seg}
use Rattle.plane.specs.Point.{at_coord}
use Rattle.plane.specs.Joined.{Leads, Joined}
use Rattle.plane.specs.Examples.{grid, segment, square}
use Rattle.crossing_laws.specs.Winding.{winding}

-- the grid point (-5, y), to the left of the square of size 10
abbrev pub west : Coord
west = record { x = negsuc 4; y = pos 5 }

-- the grid point (-5, 20), above it and above the square
abbrev pub north_west : Coord
north_west = record { x = negsuc 4; y = pos 20 }

-- from the point to the left of the square over two points above it to the one to the right of it
abbrev pub IslandExample : Type 0
IslandExample = Leads square (at_coord west) (at_coord north_west ∷ at_coord (grid 15 20) ∷ []) (at_coord (grid 15 5))

-- the sides of the triangle (0, 0), (10, 0), (0, 10)
abbrev pub triangle : List Seg
triangle = segment (grid 0 0) (grid 10 0) refl ∷ segment (grid 0 0) (grid 0 10) refl ∷ segment (grid 0 10) (grid 10 0) refl ∷ []

-- a point in the triangle is not joined with one far out
abbrev pub TriangleExample : Type 0
TriangleExample = Joined triangle (at_coord (grid 2 2)) (at_coord (grid (2 ^ 30) 0)) → ⊥

-- the corners of the square, counter-clockwise from (0, 0)
abbrev pub corners : List Coord
corners = grid 0 0 ∷ grid 10 0 ∷ grid 10 10 ∷ grid 0 10 ∷ []

-- how often rings wind round points
pub record WindingExamples : Type 0 where
  pub once : winding corners (at_coord (grid 5 5)) ≡ pos 1
  pub clockwise : winding (reverse corners) (at_coord (grid 5 5)) ≡ negsuc 0
  pub twice : winding (corners ++ corners) (at_coord (grid 5 5)) ≡ pos 2
  pub outside : winding corners (at_coord (grid 15 5)) ≡ pos 0
