-- The laws on the lines of each state, from the lemmas.
use Rattle.std.proofs.Common.{◌∙◌, ap, List, ◌↔◌}
use Rattle.std.specs.Prelude.{length, Contains}
use Rattle.cov_types.specs.declared.coord.Coord.{Coord}
use Rattle.cov_types.specs.declared.seg.Seg.{Seg}
use Rattle.cov_types.specs.Coverage.{Members}
use Rattle.cov_types.specs.Uses.{uses_of}
use Rattle.greedy_run.specs.Lines.{IsNode, AreLines}
use Rattle.greedy_run.specs.Run.{Simplification, current}
use Rattle.greedy_run.specs.Sides.{left_member, right_member}
use Rattle.kept_lines_laws.specs.Kept.{KeepsEnds}
use Rattle.kept_lines_laws.specs.Laws.{IsStateWith, KeepsSides, HasSidesExchanged, IsLeftOfLine}
use Rattle.kept_lines_laws.proofs.KeptLines.{ends_kept, left_turned, right_turned, lines_are}
use Rattle.kept_lines_laws.proofs.LineSides.{left_kept, right_kept}
use Rattle.kept_lines_laws.proofs.Nodes.{node_kept, node_was, none_removed}

module _ (members : Members) (s : Simplification) (removed : List Coord) (edges : List Seg) (h : IsStateWith members s removed edges) where
  pub nodes : (p : Coord) → IsNode edges p ↔ IsNode s.edges p
  nodes p = (node_was members h.tolerance h.inner_only s h.of h.in_range h.valid removed h.run edges h.odd h.are_edges p, node_kept members h.tolerance h.inner_only s h.of h.in_range h.valid removed h.run edges h.odd h.are_edges p)

  pub ends : (line : List Coord) → Contains s.lines line → KeepsEnds line (current removed line)
  ends = ends_kept members h.tolerance h.inner_only s h.of h.in_range h.valid removed h.run edges h.odd h.are_edges

  pub sides : (line : List Coord) → Contains s.lines line → KeepsSides members removed line
  sides line has = record {
    left = left_kept members h.tolerance h.inner_only s h.of h.in_range h.valid line has (length members) removed h.run ∙ ap (λ (c : Members). left_member (uses_of c) (length members) line) (none_removed members);
    right = right_kept members h.tolerance h.inner_only s h.of h.in_range h.valid line has (length members) removed h.run ∙ ap (λ (c : Members). right_member (uses_of c) (length members) line) (none_removed members);
  }

  pub turned : (line : List Coord) → Contains s.lines line → HasSidesExchanged members removed line
  turned line has = record {
    left = left_turned members h.tolerance h.inner_only s h.of h.in_range h.valid removed h.run edges h.odd h.are_edges line has (length members);
    right = right_turned members h.tolerance h.inner_only s h.of h.in_range h.valid removed h.run edges h.odd h.are_edges line has (length members);
  }

  pub lines : (all : List (List Coord)) → AreLines edges all → (points : List Coord) → Contains all points ↔ IsLeftOfLine s removed points
  lines all are points =
      let it = lines_are members h.tolerance h.inner_only s h.of h.in_range h.valid removed h.run edges h.odd h.are_edges all are points in
      (λ has. (let l = it.0 has in record { line = l.line; is_line = l.is_line; way = l.way }), λ l. it.1 (record { line = l.line; is_line = l.is_line; way = l.way }))
