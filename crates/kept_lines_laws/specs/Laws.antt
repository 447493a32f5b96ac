-- The laws on the lines of each state of the simplifier's run.
use Rattle.std.specs.Prelude.{◌≡◌, ℕ, ◌↔◌, Bool, List, length, reverse, Contains}
use Rattle.cov_types.specs.declared.coord.Coord.{Coord}
use Rattle.cov_types.specs.declared.seg.Seg.{Seg}
use Rattle.cov_types.specs.Coverage.{Members, AllInRange}
use Rattle.cov_types.specs.Uses.{uses_of}
use Rattle.plane.specs.Validity.{IsValid}
use Rattle.arrangement.specs.declared.odd_use.OddUse.{OddUse}
use Rattle.arrangement.specs.Noding.{AreEdges}
use Rattle.greedy_run.specs.Lines.{IsNode, AreLines}
use Rattle.greedy_run.specs.Run.{Simplification, current, coverage_without, IsRunState, IsSimplificationOf}
use Rattle.greedy_run.specs.Sides.{left_member, right_member}
use Rattle.line_walk.specs.Line.{IsLesserWay}
use Rattle.kept_lines_laws.specs.Kept.{KeepsEnds}

-- the run over a valid coverage in range comes to the state, whose coverage has these edges
pub record IsStateWith (members : Members) (s : Simplification) (removed : List Coord) (edges : List Seg) : Type 0 where
  pub tolerance : ℕ
  pub inner_only : Bool
  pub of : IsSimplificationOf members tolerance inner_only s
  pub in_range : AllInRange members
  pub valid : IsValid (uses_of members)
  pub run : IsRunState s removed
  pub odd : List OddUse
  pub are_edges : AreEdges (uses_of (coverage_without removed members)) edges odd

-- the nodes of each state are those of the input
abbrev pub NodesKeptLaw : Type 0
NodesKeptLaw = (members : Members) (s : Simplification) (removed : List Coord) (edges : List Seg) → IsStateWith members s removed edges → (p : Coord) → IsNode edges p ↔ IsNode s.edges p

-- what is left of a line keeps both ends
abbrev pub EndsKeptLaw : Type 0
EndsKeptLaw = (members : Members) (s : Simplification) (removed : List Coord) (edges : List Seg) → IsStateWith members s removed edges
    → (line : List Coord) → Contains s.lines line → KeepsEnds line (current removed line)

-- the members on the two sides of what is left are those on the two sides of the line, seen in its direction
pub record KeepsSides (members : Members) (removed line : List Coord) : Type 0 where
  pub left : left_member (uses_of (coverage_without removed members)) (length members) (current removed line) ≡ left_member (uses_of members) (length members) line
  pub right : right_member (uses_of (coverage_without removed members)) (length members) (current removed line) ≡ right_member (uses_of members) (length members) line

-- so it is of each line in each state
abbrev pub SidesKeptLaw : Type 0
SidesKeptLaw = (members : Members) (s : Simplification) (removed : List Coord) (edges : List Seg) → IsStateWith members s removed edges
    → (line : List Coord) → Contains s.lines line → KeepsSides members removed line

-- from its other end, what is left of a line has left and right exchanged
pub record HasSidesExchanged (members : Members) (removed line : List Coord) : Type 0 where
  pub left : left_member (uses_of (coverage_without removed members)) (length members) (reverse (current removed line)) ≡ right_member (uses_of (coverage_without removed members)) (length members) (current removed line)
  pub right : right_member (uses_of (coverage_without removed members)) (length members) (reverse (current removed line)) ≡ left_member (uses_of (coverage_without removed members)) (length members) (current removed line)

-- so it is of each line in each state
abbrev pub TurnedLaw : Type 0
TurnedLaw = (members : Members) (s : Simplification) (removed : List Coord) (edges : List Seg) → IsStateWith members s removed edges
    → (line : List Coord) → Contains s.lines line → HasSidesExchanged members removed line

-- the points are what is left of a line, in the lesser of its two directions
pub record IsLeftOfLine (s : Simplification) (removed points : List Coord) : Type 0 where
  pub line : List Coord
  pub is_line : Contains s.lines line
  pub way : IsLesserWay (current removed line) points

-- the lines of a state are exactly what is left of the lines, each in its own lesser direction
abbrev pub LinesKeptLaw : Type 0
LinesKeptLaw = (members : Members) (s : Simplification) (removed : List Coord) (edges : List Seg) → IsStateWith members s removed edges
    → (lines : List (List Coord)) → AreLines edges lines → (points : List Coord) → Contains lines points ↔ IsLeftOfLine s removed points
