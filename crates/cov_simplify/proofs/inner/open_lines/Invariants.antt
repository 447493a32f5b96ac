use Rattle.std.proofs.Common.{◌≡◌, ◌↔◌, ℕ, ◌≤◌, Bool, true, List, length, Some, IsTrue}
use Rattle.std.specs.Prelude.{slice_get}
use Rattle.cov_types.specs.declared.coord.Coord.{Coord}
use Rattle.cov_types.specs.declared.edge_use.EdgeUse.{EdgeUse}
use Rattle.cov_types.specs.Uses.{HasEvenEnds}
use Rattle.plane.specs.Validity.{IsValid}
use Rattle.arrangement.specs.Noding.{AreEdges}
use Rattle.greedy_run.specs.Run.{IsInner}
use Rattle.line_walk.specs.Line.{plain_lists}
use Rattle.cov_simplify.proofs.inner.open_lines.Given as goal

abbrev pub invariant-loop-i : goal.invariant-loop-i
invariant-loop-i l = record {
  long : length l.marks.items ≡ l.i;
  within : l.i ≤ length l.lines;
  each : (uses : List EdgeUse) → IsValid uses → HasEvenEnds uses → AreEdges uses l.live.edges.items l.live.odd.items
      → (k : ℕ) (points : List Coord) (mark : Bool) → slice_get (plain_lists l.lines) k ≡ Some points → slice_get l.marks.items k ≡ Some mark → IsTrue mark ↔ (l.inner_only ≡ true → IsInner uses points);
}
