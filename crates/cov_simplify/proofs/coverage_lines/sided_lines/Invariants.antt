use Rattle.std.proofs.Common.{◌≡◌, ◌++◌}
use Rattle.std.specs.Prelude.{All}
use Rattle.line_walk.specs.Line.{plain_lists}
use Rattle.cov_simplify.specs.declared.coverage_lines.Line.{Line}
use Rattle.cov_simplify.specs.Lines.{line_points, IsSidedLine}
use Rattle.cov_simplify.proofs.coverage_lines.sided_lines.Given as goal

abbrev pub invariant-loop-points : goal.invariant-loop-points
invariant-loop-points l = record {
  points_are : line_points l.lines.items ≡ plain_lists l.yielded;
  each : All (λ (line : Line). IsSidedLine l.labels line.points.items line) l.lines.items;
  left : l.yielded ++ l.points-iterator.rest.items ≡ l.fn.lists.items;
}
