-- The lines of the coverage, simplified, are those of the coverage, thinned.
use Rattle.std.proofs.Common.{◌≡◌, ◌⊎◌, inl, inr, refl, sym, ◌∙◌, ap, subst, ℕ, Bool, ◌↔◌, List, map, length}
use Rattle.std.specs.Prelude.{Contains, reverse}
use Rattle.std.proofs.lemmas.List.{length-map}
use Rattle.std.proofs.lemmas.List.Elements.{All-contains}
use Rattle.cov_types.specs.declared.coord.Coord.{Coord}
use Rattle.cov_types.specs.declared.seg.Seg.{Seg}
use Rattle.cov_types.specs.Coverage.{Members, AllInRange}
use Rattle.cov_types.specs.Uses.{uses_of}
use Rattle.plane.specs.Validity.{IsValid}
use Rattle.crossing_laws.proofs.Lists.{contains-map}
use Rattle.arrangement.specs.declared.odd_use.OddUse.{OddUse}
use Rattle.arrangement.specs.Noding.{AreEdges}
use Rattle.arrangement.proofs.Labels.{mapped}
use Rattle.greedy_run.specs.Lines.{IsNode, AreLines}
use Rattle.greedy_run.specs.Run.{current, ring_without, coverage_without, IsSimplified}
use Rattle.greedy_run.specs.Sides.{left_member, right_member}
use Rattle.arrangement.proofs.OneNoding.{same_edges}
use Rattle.greedy_run.proofs.OneRun.{one_list}
use Rattle.kept_lines_laws.specs.Laws.{IsStateWith, KeepsSides, HasSidesExchanged}
use Rattle.kept_lines_laws.proofs.Kept.{nodes, ends, sides, turned, lines}
use Rattle.line_walk.specs.Line.{IsLesserWay}
use Rattle.line_walk.proofs.LesserWays.{some_lesser}
use Rattle.cov_simplify.specs.KeptLines.{AreNodesKept, IsSameWay, IsOtherWay, IsKeptLine, AreKeptLines}
use Rattle.cov_simplify.specs.Lines.{line_points, IsSided, AreLinesOf}
use Rattle.cov_simplify.specs.declared.coverage_lines.Line.{Line}

-- a list of points of a line is that of some line
line_with : (all : List Line) (points : List Coord) → Contains (line_points all) points → (l : Line) × (Contains all l × (l.points.items ≡ points))
line_with all points has = mapped (λ (l : Line). l.points.items) (λ points. (l : Line) × (Contains all l × (l.points.items ≡ points))) all (λ l inside. (l, (inside, refl))) points has

module _ (members : Members) (tolerance : ℕ) (inner_only : Bool) (out : Members) (range : AllInRange members) (valid : IsValid (uses_of members)) (h : IsSimplified members tolerance inner_only out) where
  state_with : (edges : List Seg) (odd : List OddUse) → AreEdges (uses_of out) edges odd → IsStateWith members h.s h.removed edges
  state_with edges odd are = record {
    tolerance = tolerance;
    inner_only = inner_only;
    of = h.of;
    in_range = range;
    valid = valid;
    run = h.final.run;
    odd = odd;
    are_edges = subst (λ (c : Members). AreEdges (uses_of c) edges odd) h.without are;
  }

  pub nodes_kept : AreNodesKept members out
  nodes_kept edges others odd odd_too are are_too p =
      let same = same_edges (uses_of members) h.s.edges edges h.of.odd odd h.of.are_edges are in
      subst (λ es. IsNode others p ↔ IsNode es p) same (nodes members h.s h.removed others (state_with others odd_too are_too) p)

  -- ---- the lines

  module _ (before after : List Line) (b : AreLinesOf members before) (a : AreLinesOf out after) where
    abbrev removed : List Coord
    removed = h.removed

    its_lines : h.s.lines ≡ line_points before
    its_lines =
        let same = same_edges (uses_of members) h.s.edges b.edges h.of.odd b.odd h.of.are_edges b.are_edges in
        one_list b.edges h.s.lines (line_points before) (subst (λ es. AreLines es h.s.lines) same h.s.are_lines) b.are_lines

    state : IsStateWith members h.s removed a.edges
    state = state_with a.edges a.odd a.are_edges

    line_of : (l : Line) → Contains before l → Contains h.s.lines l.points.items
    line_of l has = subst (λ ls. Contains ls l.points.items) (sym its_lines) (contains-map (λ (l : Line). l.points.items) before l has)

    count : length out ≡ length members
    count = ap length h.without ∙ length-map members (λ polys. map (λ rings. map (ring_without removed) rings) polys)

    left_after : (m : Line) → Contains after m → m.left ≡ left_member (uses_of (coverage_without removed members)) (length members) m.points.items
    left_after m has = (All-contains (IsSided out) after m a.sided has).left ∙ (λ i. left_member (uses_of (h.without i)) (count i) m.points.items)

    right_after : (m : Line) → Contains after m → m.right ≡ right_member (uses_of (coverage_without removed members)) (length members) m.points.items
    right_after m has = (All-contains (IsSided out) after m a.sided has).right ∙ (λ i. right_member (uses_of (h.without i)) (count i) m.points.items)

    kept : (l m : Line) → Contains before l → Contains after m → IsLesserWay (current removed l.points.items) m.points.items → IsKeptLine removed l m
    kept l m in_before in_after way = record { ends = ends members h.s removed a.edges state l.points.items (line_of l in_before); way = by way.either }
      where
        same : KeepsSides members removed l.points.items
        same = sides members h.s removed a.edges state l.points.items (line_of l in_before)

        back : HasSidesExchanged members removed l.points.items
        back = turned members h.s removed a.edges state l.points.items (line_of l in_before)

        left_before : l.left ≡ left_member (uses_of members) (length members) l.points.items
        left_before = (All-contains (IsSided members) before l b.sided in_before).left

        right_before : l.right ≡ right_member (uses_of members) (length members) l.points.items
        right_before = (All-contains (IsSided members) before l b.sided in_before).right

        by : (m.points.items ≡ current removed l.points.items) ⊎ (m.points.items ≡ reverse (current removed l.points.items)) → IsSameWay removed l m ⊎ IsOtherWay removed l m
        by (inl is) = inl (record {
          points = is;
          left = left_after m in_after ∙ ap (left_member (uses_of (coverage_without removed members)) (length members)) is ∙ same.left ∙ sym left_before;
          right = right_after m in_after ∙ ap (right_member (uses_of (coverage_without removed members)) (length members)) is ∙ same.right ∙ sym right_before;
        })
        by (inr is) = inr (record {
          points = is;
          left = left_after m in_after ∙ ap (left_member (uses_of (coverage_without removed members)) (length members)) is ∙ back.left ∙ same.right ∙ sym right_before;
          right = right_after m in_after ∙ ap (right_member (uses_of (coverage_without removed members)) (length members)) is ∙ back.right ∙ same.left ∙ sym left_before;
        })

    pub lines_kept : AreKeptLines members out before after
    lines_kept = record {
      removed = removed;
      without = h.without;
      every = λ l in_before. (
          let (lesser, way) = some_lesser (current removed l.points.items) in
          let has = (lines members h.s removed a.edges state (line_points after) a.are_lines lesser).1 (record { line = l.points.items; is_line = line_of l in_before; way = way }) in
          let (m, found) = line_with after lesser has in
          (m, (found.0, kept l m in_before found.0 (subst (IsLesserWay (current removed l.points.items)) (sym found.1) way))));
      each = λ m in_after. (
          let from = (lines members h.s removed a.edges state (line_points after) a.are_lines m.points.items).0 (contains-map (λ (l : Line). l.points.items) after m in_after) in
          let (l, found) = line_with before from.line (subst (λ ls. Contains ls from.line) its_lines from.is_line) in
          (l, (found.0, kept l m found.0 in_after (subst (λ ps. IsLesserWay (current removed ps) m.points.items) (sym found.1) from.way))));
    }
