-- What becomes of the lines of a coverage that is simplified.
use Rattle.std.specs.Prelude.{◌≡◌, ◌⊎◌, ◌↔◌, List, reverse, Contains}
use Rattle.cov_types.specs.declared.coord.Coord.{Coord}
use Rattle.cov_types.specs.declared.seg.Seg.{Seg}
use Rattle.cov_types.specs.Coverage.{Members}
use Rattle.cov_types.specs.Uses.{uses_of}
use Rattle.arrangement.specs.declared.odd_use.OddUse.{OddUse}
use Rattle.arrangement.specs.Noding.{AreEdges}
use Rattle.greedy_run.specs.Lines.{IsNode}
use Rattle.greedy_run.specs.Run.{current, coverage_without}
use Rattle.kept_lines_laws.specs.Kept.{KeepsEnds}
use Rattle.cov_simplify.specs.Lines.{AreLinesOf}
use Rattle.cov_simplify.specs.declared.coverage_lines.Line.{Line}

-- the nodes of the answer are those of the coverage
abbrev pub AreNodesKept : Members → Members → Type 0
AreNodesKept members out = (edges others : List Seg) (odd odd_too : List OddUse) → AreEdges (uses_of members) edges odd → AreEdges (uses_of out) others odd_too
    → (p : Coord) → IsNode others p ↔ IsNode edges p

-- the line after is what is left of the line before, in its direction and between the same members
pub record IsSameWay (removed : List Coord) (before after : Line) : Type 0 where
  pub points : after.points.items ≡ current removed before.points.items
  pub left : after.left ≡ before.left
  pub right : after.right ≡ before.right

-- or in the other direction, with left and right exchanged
pub record IsOtherWay (removed : List Coord) (before after : Line) : Type 0 where
  pub points : after.points.items ≡ reverse (current removed before.points.items)
  pub left : after.left ≡ before.right
  pub right : after.right ≡ before.left

-- the line after is the line before without the removed points, with both ends kept
pub record IsKeptLine (removed : List Coord) (before after : Line) : Type 0 where
  pub ends : KeepsEnds before.points.items (current removed before.points.items)
  pub way : IsSameWay removed before after ⊎ IsOtherWay removed before after

-- the lines after are the lines before without the points that the answer is without
pub record AreKeptLines (members out : Members) (before after : List Line) : Type 0 where
  pub removed : List Coord
  pub without : out ≡ coverage_without removed members
  pub every : (l : Line) → Contains before l → (m : Line) × (Contains after m × IsKeptLine removed l m)
  pub each : (m : Line) → Contains after m → (l : Line) × (Contains before l × IsKeptLine removed l m)

-- the lines of the answer are the lines of the coverage, so kept
abbrev pub AreLinesKept : Members → Members → Type 0
AreLinesKept members out = (before after : List Line) → AreLinesOf members before → AreLinesOf out after → AreKeptLines members out before after
