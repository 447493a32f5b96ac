-- The order of coordinates.
use Rattle.std.specs.Cmp.Lexicographic.{slice_cmp}
use Rattle.std.specs.Prelude.{Bool, ◌&&◌, ◌||◌, not, int_lt, List}
use Rattle.std.specs.Ordering.{int_cmp, int_eq, ordering_then}
use Rattle.std.specs.declared.cmp.Ordering.{Ordering}
use Rattle.cov_types.specs.declared.coord.Coord.{Coord}

-- a comes before b: by x, then by y
abbrev pub is_before : Coord → Coord → Bool
is_before a b = int_lt a.x b.x || (not (int_lt b.x a.x) && int_lt a.y b.y)

-- whether the two are one grid point
abbrev pub is_same_coord : Coord → Coord → Bool
is_same_coord a b = int_eq a.x b.x && int_eq a.y b.y

-- what `cmp` answers of two coordinates
abbrev pub coord_cmp : Coord → Coord → Ordering
coord_cmp a b = ordering_then (int_cmp a.x b.x) (int_cmp a.y b.y)

-- the lexicographic order of lists of points
abbrev pub points_cmp : List Coord → List Coord → Ordering
points_cmp xs ys = slice_cmp coord_cmp xs ys
