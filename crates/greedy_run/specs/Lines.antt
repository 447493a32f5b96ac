-- Nodes, and lines from node to node.
use Rattle.std.specs.Prelude.{◌≡◌, ◌≢◌, ◌⊎◌, ℕ, ◌+◌, ◌-◌, ◌<◌, ◌≤◌, false, ◌||◌, IsTrue, ◌↔◌, List, ◌∷◌, length, reverse, drop, zip, count_by, All, AllPairs, Contains, Some, slice_get}
use Rattle.std.specs.Ordering.{is_lt, is_le}
use Rattle.cov_types.specs.declared.coord.Coord.{Coord}
use Rattle.cov_types.specs.declared.seg.Seg.{Seg}
use Rattle.cov_types.specs.Coord.{is_before, is_same_coord, points_cmp}
use Rattle.cov_types.specs.Seg.{IsSegBetween}
use Rattle.plane.specs.Snapping.{chain_edges}

-- how many of the edges, which are distinct, end at the point
abbrev pub degree : List Seg → Coord → ℕ
degree edges p = count_by (λ e. is_same_coord e.lo p || is_same_coord e.hi p) edges

-- each point with the next
abbrev pub steps : List Coord → List (Coord × Coord)
steps points = zip points (drop 1 points)

-- an edge of the list leads from one point of the step to the other
abbrev pub IsAlongEdge : List Seg → Coord × Coord → Type 0
IsAlongEdge edges step = (e : Seg) × (Contains edges e × IsSegBetween step.0 step.1 e)

-- each point is led to from the one before it by an edge
abbrev pub IsPathAlong : List Seg → List Coord → Type 0
IsPathAlong edges points = All (IsAlongEdge edges) (steps points)

-- p is the least point of a closed chain of edges on which two edges meet at each point: of all that walks from p lead to
abbrev pub IsLeastOfLoop : List Seg → Coord → Type 0
IsLeastOfLoop edges p = (walk : List Coord) → IsPathAlong edges (p ∷ walk) → All (λ q. (degree edges q ≡ 2) × (is_before q p ≡ false)) (p ∷ walk)

-- a node: the end of some edges, of other than two or as the least point of a closed chain
pub record IsNode (edges : List Seg) (p : Coord) : Type 0 where
  pub vertex : 1 ≤ degree edges p
  pub node : (degree edges p ≢ 2) ⊎ IsLeastOfLoop edges p

-- a line: a walk along distinct edges from node to node with no node between, in the lesser of its two directions
pub record IsLine (edges : List Seg) (points : List Coord) : Type 0 where
  pub long : 2 ≤ length points
  pub walk : IsPathAlong edges points
  pub distinct : AllPairs (λ e f. e ≢ f) (chain_edges points)
  pub from : (p : Coord) → slice_get points 0 ≡ Some p → IsNode edges p
  pub to : (p : Coord) → slice_get points (length points - 1) ≡ Some p → IsNode edges p
  pub between : (k : ℕ) (p : Coord) → 0 < k → k + 1 < length points → slice_get points k ≡ Some p → ¬ IsNode edges p
  pub direction : IsTrue (is_le (points_cmp points (reverse points)))

-- each list of points comes before those after it
abbrev pub PathsAscend : List (List Coord) → Type 0
PathsAscend lists = AllPairs (λ l m. IsTrue (is_lt (points_cmp l m))) lists

-- all lines, numbered in lexicographic order
pub record AreLines (edges : List Seg) (lines : List (List Coord)) : Type 0 where
  pub ascending : PathsAscend lines
  pub exact : (points : List Coord) → Contains lines points ↔ IsLine edges points

-- ---- walking along a line

-- a trail: a walk along distinct edges, where two edges meet at each point between its ends
pub record IsTrail (edges : List Seg) (points : List Coord) : Type 0 where
  pub long : 2 ≤ length points
  pub walk : IsPathAlong edges points
  pub distinct : AllPairs (λ e f. e ≢ f) (chain_edges points)
  pub between : (k : ℕ) (p : Coord) → 0 < k → k + 1 < length points → slice_get points k ≡ Some p → degree edges p ≡ 2

-- the last point of a list
abbrev pub EndsAt : List Coord → Coord → Type 0
EndsAt points q = slice_get points (length points - 1) ≡ Some q

-- a loop: a trail back to its first point, where two edges meet too
pub record IsLoop (edges : List Seg) (points : List Coord) : Type 0 where
  pub trail : IsTrail edges points
  pub at : Coord
  pub first : slice_get points 0 ≡ Some at
  pub last : EndsAt points at
  pub two : degree edges at ≡ 2

-- a trail that begins along the edge and is done: it ends where other than two edges meet, or is a loop
pub record IsWalked (edges : List Seg) (e : Seg) (points : List Coord) : Type 0 where
  pub trail : IsTrail edges points
  pub first : slice_get (chain_edges points) 0 ≡ Some e
  pub done : IsLoop edges points ⊎ ((q : Coord) → EndsAt points q → degree edges q ≢ 2)
