-- An instance of simplifying: a square with a point in the middle of its bottom, at tolerance 0.
use Rattle.std.specs.Prelude.{false, List, [], ◌∷◌, ◌++◌}
use Rattle.cov_types.specs.declared.seg.Seg.{Seg}
use Rattle.cov_types.specs.Coverage.{Members}
use Rattle.cov_types.specs.Uses.{uses_of}
use Rattle.plane.specs.Examples.{grid}
use Rattle.arrangement.specs.Examples.{at, edge}
use Rattle.greedy_run.specs.Examples.{round_line}
use Rattle.greedy_run.specs.Lines.{IsNode, AreLines}
use Rattle.greedy_run.specs.Run.{Simplification, IsRemovable, IsNextPoint, IsFinalState, IsSimplified, IsExhausted}

-- its edges
abbrev pub five_edges : List Seg
five_edges = edge 0 0 0 10 ++ edge 0 0 5 0 ++ edge 0 10 10 10 ++ edge 5 0 10 0 ++ edge 10 0 10 10

-- the coverage of the one member that has it, before and after
abbrev pub bent_square : Members
bent_square = (((at 0 0 ++ at 5 0 ++ at 10 0 ++ at 10 10 ++ at 0 10) ∷ []) ∷ []) ∷ []

-- the same without the point in the middle
abbrev pub plain_square : Members
plain_square = (((at 0 0 ++ at 10 0 ++ at 10 10 ++ at 0 10) ∷ []) ∷ []) ∷ []

-- what is simplified
abbrev pub straightening : AreLines five_edges (round_line ∷ []) → Simplification
straightening are_lines = record {
  uses = uses_of bent_square;
  edges = five_edges;
  lines = round_line ∷ [];
  are_lines = are_lines;
  tolerance = 0;
  inner_only = false;
}

-- the least point is the one node, the one line goes round from it, and the run removes the point in the middle and ends
pub record RunExamples : Type 0 where
  pub node : IsNode five_edges (grid 0 0)
  pub no_node : ¬ IsNode five_edges (grid 5 0)
  pub lines : AreLines five_edges (round_line ∷ [])
  pub removable : IsRemovable (straightening lines) [] (record { size = 0; line = 0; place = 4 })
  pub not_removable : ¬ IsRemovable (straightening lines) [] (record { size = 100; line = 0; place = 1 })
  pub next : IsNextPoint (straightening lines) [] (grid 5 0)
  pub final : IsFinalState (straightening lines) (at 5 0)
  pub simplified : IsSimplified bent_square 0 false plain_square
  pub not_exhausted : ¬ IsExhausted bent_square 0 false
