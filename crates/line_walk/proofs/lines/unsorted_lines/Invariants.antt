use Rattle.line_walk.specs.Line.{plain_lists}
use Rattle.line_walk.proofs.Gathering.{AreLinesTo}
use Rattle.line_walk.proofs.lines.unsorted_lines.Given as goal

abbrev pub invariant-loop-first : goal.invariant-loop-first
invariant-loop-first l = AreLinesTo l.edges l.first l.seen.items (plain_lists l.lines.items)
