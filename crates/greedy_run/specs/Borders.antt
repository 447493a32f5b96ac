-- Instances of lines: two neighbours with a bent common border, and a triangle from which nothing can be removed.
use Rattle.std.specs.Prelude.{◌≡◌, false, List, [], ◌∷◌, ◌++◌, Some, None}
use Rattle.cov_types.specs.declared.coord.Coord.{Coord}
use Rattle.cov_types.specs.declared.seg.Seg.{Seg}
use Rattle.cov_types.specs.Coverage.{Members}
use Rattle.cov_types.specs.Uses.{uses_of}
use Rattle.plane.specs.Examples.{grid}
use Rattle.arrangement.specs.Examples.{at, edge}
use Rattle.greedy_run.specs.Lines.{IsNode, AreLines}
use Rattle.greedy_run.specs.Run.{IsInner, IsSimplified, IsExhausted}
use Rattle.greedy_run.specs.Sides.{left_member, right_member}

-- ---- two neighbours

-- two squares of size 10 with a common side that is bent at (11, 5)
abbrev pub neighbours : Members
neighbours = (((at 0 0 ++ at 10 0 ++ at 11 5 ++ at 10 10 ++ at 0 10) ∷ []) ∷ []) ∷ (((at 10 0 ++ at 20 0 ++ at 20 10 ++ at 10 10 ++ at 11 5) ∷ []) ∷ []) ∷ []

-- their edges
abbrev pub neighbour_edges : List Seg
neighbour_edges =
    edge 0 0 0 10 ++ edge 0 0 10 0 ++ edge 0 10 10 10 ++ edge 10 0 11 5 ++ edge 10 0 20 0 ++ edge 10 10 11 5
    ++ edge 10 10 20 10 ++ edge 20 0 20 10

-- the line round the first
abbrev pub left_line : List Coord
left_line = at 10 0 ++ at 0 0 ++ at 0 10 ++ at 10 10

-- the common border
abbrev pub inner_line : List Coord
inner_line = at 10 0 ++ at 11 5 ++ at 10 10

-- the line round the second
abbrev pub right_line : List Coord
right_line = at 10 0 ++ at 20 0 ++ at 20 10 ++ at 10 10

-- ---- a triangle

-- its ring
abbrev pub triangle : Members
triangle = (((at 0 0 ++ at 4 0 ++ at 0 4) ∷ []) ∷ []) ∷ []

-- its edges
abbrev pub triangle_edges : List Seg
triangle_edges = edge 0 0 0 4 ++ edge 0 0 4 0 ++ edge 0 4 4 0

-- its one line
abbrev pub triangle_line : List Coord
triangle_line = at 0 0 ++ at 0 4 ++ at 4 0 ++ at 0 0

-- outside is on the left of the line round the first, the common border goes between the two, and outside is on the right of the line round the second
pub record SideExamples : Type 0 where
  pub left_of_left : left_member (uses_of neighbours) 2 left_line ≡ None
  pub right_of_left : right_member (uses_of neighbours) 2 left_line ≡ Some 0
  pub left_of_inner : left_member (uses_of neighbours) 2 inner_line ≡ Some 0
  pub right_of_inner : right_member (uses_of neighbours) 2 inner_line ≡ Some 1
  pub left_of_right : left_member (uses_of neighbours) 2 right_line ≡ Some 1
  pub right_of_right : right_member (uses_of neighbours) 2 right_line ≡ None

-- three lines lead between the two nodes, and the middle one alone is inner; each point of the triangle is blocked by the opposite side
pub record NeighbourExamples : Type 0 where
  pub node : IsNode neighbour_edges (grid 10 0)
  pub no_node : ¬ IsNode neighbour_edges (grid 11 5)
  pub lines : AreLines neighbour_edges (left_line ∷ inner_line ∷ right_line ∷ [])
  pub inner : IsInner (uses_of neighbours) inner_line
  pub not_inner : ¬ IsInner (uses_of neighbours) left_line
  pub round : AreLines triangle_edges (triangle_line ∷ [])
  pub blocked : IsSimplified triangle 1000 false triangle
  pub exhausted : IsExhausted triangle 1000 false
