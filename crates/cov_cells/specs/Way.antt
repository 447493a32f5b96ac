-- Points in the way of a triangle, and the first of them.
use Rattle.std.specs.Prelude.{◌≡◌, ◌≢◌, false, List, Contains, Option, Some, None}
use Rattle.cov_types.specs.declared.coord.Coord.{Coord}
use Rattle.cov_types.specs.Coord.{is_before}
use Rattle.greedy_run.specs.Run.{Triangle, IsInTriangle}

-- p is in the way: in the closed triangle, and none of its corners
pub record IsInWay (t : Triangle) (p : Coord) : Type 0 where
  pub inside : IsInTriangle t p
  pub not_a : p ≢ t.a
  pub not_b : p ≢ t.b
  pub not_c : p ≢ t.c

-- the answer is the least of the points that are in the way, and none where none is
abbrev pub IsFirstInWay : List Coord → Triangle → Option Coord → Type 0
IsFirstInWay points t (Some p) = Contains points p × IsInWay t p × ((q : Coord) → Contains points q → IsInWay t q → is_before q p ≡ false)
IsFirstInWay points t None = (q : Coord) → Contains points q → ¬ IsInWay t q
