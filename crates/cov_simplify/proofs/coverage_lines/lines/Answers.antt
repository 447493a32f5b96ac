use Rattle.std.proofs.Common.{◌≡◌, ◌∙◌, ap, sym, subst, List, rules}
use Rattle.std.proofs.lemmas.Result.{IfOk-weaker}
use Rattle.cov_types.specs.Coverage.{Members}
use Rattle.cov_types.specs.Uses.{uses_of}
use Rattle.plane.specs.Validity.{IsValid}
use Rattle.cov_types.specs.declared.coord.Coord.{Coord}
use Rattle.cov_types.specs.declared.seg.Seg.{Seg}
use Rattle.greedy_run.specs.Lines.{AreLines}
use Rattle.line_walk.specs.Line.{plain_lists}
use Rattle.cov_simplify.specs.declared.coverage_lines.Line.{Line}
use Rattle.cov_simplify.specs.Lines.{AreLinesOf}
use Rattle.cov_simplify.proofs.LineLists.{lines_of_valid}
use Rattle.cov_simplify.proofs.coverage_lines.lines.Goals as goal

pub returns : goal.returns
returns c =
    let live = c.in_ok-live.live in
    let edges : List Seg = live.edges.items in
    let all : AreLines edges (plain_lists c.in_ok-lists.lists.items) = subst (λ (es : List Seg). AreLines es (plain_lists c.in_ok-lists.lists.items)) c.deref-2.ensures.value c.in_ok-lists.ensures in
    IfOk-weaker c.sided_lines.result _ _ (λ lines h. subst (λ (ms : Members). AreLinesOf ms lines.items) c.coverage.ensures.coverage
    (lines_of_valid c.coverage.result.now (subst (λ (ms : Members). IsValid (uses_of ms)) (sym c.coverage.ensures.coverage) c.coverage.ensures.valid) edges live.odd.items c.in_ok-live.ensures.exact c.in_ok-live.ensures.planar c.in_ok-live.ensures.distinct
    c.in_ok-labels.labels c.in_ok-labels.ensures (plain_lists c.in_ok-lists.lists.items) all lines.items h)) c.sided_lines.ensures
