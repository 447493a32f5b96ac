-- Coverages as lists: members of polygons of rings of points.
use Rattle.std.specs.Prelude.{◌≤◌, ◌<◌, ◌^◌, List, length, All}
use Rattle.cov_types.specs.Range.{IsInRange}
use Rattle.cov_types.specs.declared.coord.Coord.{Coord}

-- the members of a coverage: lists of polygons, which are lists of rings, which are lists of points
abbrev pub Members : Type 0
Members = List (List (List (List Coord)))

-- every point of the ring is in range
abbrev pub IsRingInRange : List Coord → Type 0
IsRingInRange points = All IsInRange points

-- every point of the polygon is in range
abbrev pub IsPolyInRange : List (List Coord) → Type 0
IsPolyInRange rings = All IsRingInRange rings

-- every point of the member is in range
abbrev pub IsMemberInRange : List (List (List Coord)) → Type 0
IsMemberInRange polys = All IsPolyInRange polys

-- every coordinate is in range, and there are fewer than 2 ^ 32 members
pub record AllInRange (members : Members) : Type 0 where
  pub coords : All IsMemberInRange members
  pub count : length members < 2 ^ 32

-- the ring has three points or more
abbrev pub IsRingFormed : List Coord → Type 0
IsRingFormed points = 3 ≤ length points

-- the polygon has a ring, and every ring of it has three points or more
abbrev pub IsPolyFormed : List (List Coord) → Type 0
IsPolyFormed rings = (1 ≤ length rings) × All IsRingFormed rings

-- every polygon of the member has a ring, and every ring three points or more
abbrev pub IsMemberFormed : List (List (List Coord)) → Type 0
IsMemberFormed polys = All IsPolyFormed polys

-- the coverage is in range, every polygon has a ring and every ring has three points or more
pub record IsFormed (members : Members) : Type 0 where
  pub in_range : AllInRange members
  pub shapes : All IsMemberFormed members
