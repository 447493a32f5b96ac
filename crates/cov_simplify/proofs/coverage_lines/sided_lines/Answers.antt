use Rattle.std.proofs.Common.{◌≡◌, ◌∙◌, ap, sym, subst, List, arith, ◌<◌, length, [], ◌∷◌, ◌++◌}
use Rattle.std.proofs.lemmas.List.Elements.{All-nil}
use Rattle.std.specs.Prelude.{All}
use Rattle.line_walk.specs.Line.{plain_lists}
use Rattle.cov_simplify.specs.declared.coverage_lines.Line.{Line}
use Rattle.cov_simplify.specs.Lines.{line_points, IsSidedLine}
use Rattle.cov_simplify.proofs.LineLists.{next_among, passed_on, all_passed, points_more, sided_more}
use Rattle.cov_simplify.proofs.coverage_lines.sided_lines.Goals as goal

pub loop-points-init : goal.loop-points-init
loop-points-init c = record {
  points_are = ap line_points c.new-lines.ensures.items;
  each = subst (λ (ls : List Line). All (λ (line : Line). IsSidedLine c.args.labels.now line.points.items line) ls) (sym c.new-lines.ensures.items) (All-nil (λ (line : Line). IsSidedLine c.args.labels.now line.points.items line));
  left = c.into_iter-points-iterator.ensures.into_iter_gives.0;
}

pub sided_line-requires-clause-line : goal.sided_line-requires-clause-line
sided_line-requires-clause-line c =
    (c.requires.lines.exact c.in-Some.points.items).0
    (next_among c.loop-points.yielded _ c.args.lists.items c.in-Some.points (ap (λ xs. c.loop-points.yielded ++ xs) (sym c.in-Some.ensures.steps.0) ∙ c.loop-points.invariant.left))

pub loop-points-preserved : goal.loop-points-preserved
loop-points-preserved c = record {
  points_are = ap line_points c.in_ok-push.ensures.items ∙ points_more c.args.labels.now c.loop-points.yielded c.loop-points.lines.items c.in-Some.points c.sided_line.result c.sided_line.ensures c.loop-points.invariant.points_are;
  each = subst (λ (ls : List Line). All (λ (line : Line). IsSidedLine c.args.labels.now line.points.items line) ls) (sym c.in_ok-push.ensures.items)
      (sided_more c.args.labels.now c.loop-points.yielded c.loop-points.lines.items c.in-Some.points c.sided_line.result c.sided_line.ensures c.loop-points.invariant.each);
  left = passed_on c.loop-points.yielded _ c.loop-points.points-iterator.rest.items c.args.lists.items c.in-Some.points c.loop-points.invariant.left c.in-Some.ensures.steps.0;
}

pub returns : goal.returns
returns c = record {
  points_are = c.loop-points.invariant.points_are ∙ ap plain_lists (all_passed c.loop-points.yielded c.loop-points.points-iterator.rest.items c.args.lists.items c.loop-points.invariant.left (omega (arith, c.in-None.ensures.steps.0, c.loop-points.points-iterator.rest.ok.0)));
  each = c.loop-points.invariant.each;
}
