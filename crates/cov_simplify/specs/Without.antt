-- Sets of removed points, and what is left of a polygon and of a member.
use Rattle.std.specs.Prelude.{◌≡◌, List, map}
use Rattle.std.specs.HashSet.{HashSet, contains}
use Rattle.std.specs.declared.hash.BuildHasherDefault.{BuildHasherDefault}
use Rattle.std.specs.declared.hash.FoldHasher.{FoldHasher}
use Rattle.cov_types.specs.declared.coord.Coord.{Coord}
use Rattle.cov_types.specs.Coord.{is_same_coord}
use Rattle.greedy_run.specs.Run.{is_removed, ring_without}

-- the set has exactly the removed points
abbrev pub AreGone : HashSet Coord (BuildHasherDefault FoldHasher) → List Coord → Type 0
AreGone gone removed = (p : Coord) → contains is_same_coord gone p ≡ is_removed removed p

-- what is left of the polygon
abbrev pub poly_without : List Coord → List (List Coord) → List (List Coord)
poly_without removed rings = map (ring_without removed) rings

-- what is left of the member
abbrev pub member_without : List Coord → List (List (List Coord)) → List (List (List Coord))
member_without removed polys = map (poly_without removed) polys
