-- The lines of a coverage with the members beside them.
use Rattle.std.specs.Prelude.{◌≡◌, List, length, map, All}
use Rattle.cov_types.specs.declared.coord.Coord.{Coord}
use Rattle.cov_types.specs.declared.seg.Seg.{Seg}
use Rattle.cov_types.specs.Coverage.{Members}
use Rattle.cov_types.specs.Uses.{uses_of}
use Rattle.arrangement.specs.declared.odd_use.OddUse.{OddUse}
use Rattle.arrangement.specs.Noding.{AreEdges}
use Rattle.arrangement.specs.Overlay.{Overlay}
use Rattle.greedy_run.specs.Lines.{AreLines}
use Rattle.greedy_run.specs.Sides.{left_member, right_member}
use Rattle.owner_label.specs.Labelled.{Labelled, IsOverlay}
use Rattle.cov_simplify.specs.declared.coverage_lines.Line.{Line}

-- the points of each line
abbrev pub line_points : List Line → List (List Coord)
line_points lines = map (λ (l : Line). l.points.items) lines

-- the members beside the line are its left and its right member
pub record IsSided (members : Members) (l : Line) : Type 0 where
  pub left : l.left ≡ left_member (uses_of members) (length members) l.points.items
  pub right : l.right ≡ right_member (uses_of members) (length members) l.points.items

-- all lines of the coverage, in the order of their numbers, each with the members beside it
pub record AreLinesOf (members : Members) (lines : List Line) : Type 0 where
  pub edges : List Seg
  pub odd : List OddUse
  pub are_edges : AreEdges (uses_of members) edges odd
  pub are_lines : AreLines edges (line_points lines)
  pub sided : All (IsSided members) lines

-- the line has these points, and the members beside it by the overlay
pub record IsSidedLine (labelled : Labelled) (points : List Coord) (l : Line) : Type 0 where
  pub points_are : l.points.items ≡ points
  pub left : (o : Overlay) → IsOverlay labelled o → l.left ≡ left_member o.uses o.members points
  pub right : (o : Overlay) → IsOverlay labelled o → l.right ≡ right_member o.uses o.members points

-- the lines have these points, and the members beside them by the overlay
pub record AreSidedLines (labelled : Labelled) (lists : List (List Coord)) (lines : List Line) : Type 0 where
  pub points_are : line_points lines ≡ lists
  pub each : All (λ (l : Line). IsSidedLine labelled l.points.items l) lines
