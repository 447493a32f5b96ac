use Rattle.std.proofs.Common.{◌≡◌, sym, subst, List}
use Rattle.std.specs.Global.{Vec}
use Rattle.std.proofs.lemmas.Result.{IfOk-weaker}
use Rattle.cov_types.specs.declared.coord.Coord.{Coord}
use Rattle.cov_types.specs.declared.seg.Seg.{Seg}
use Rattle.cov_types.specs.Uses.{uses_of}
use Rattle.cov_types.proofs.EvenEnds.{even-ends}
use Rattle.greedy_run.specs.Lines.{AreLines}
use Rattle.line_walk.specs.Line.{plain_lists}
use Rattle.visvalingam.specs.State.{AreLinesInRange}
use Rattle.cov_simplify.specs.Inner.{AreOpen}
use Rattle.cov_simplify.proofs.Simplified.{asked_of, asked_is, lines_range, simplified_by}
use Rattle.cov_simplify.proofs.simplifying.removed_from.Goals as goal

pub open_lines-requires : goal.open_lines-requires
open_lines-requires c =
    let lines : List (Vec Coord) = c.in_ok-lines.lines.items in
    let all : AreLines c.in_ok-live.live.edges.items (plain_lists lines) = subst (λ (es : List Seg). AreLines es (plain_lists lines)) c.deref.ensures.value c.in_ok-lines.ensures in
    record { lines = subst (λ (ls : List (Vec Coord)). AreLines c.in_ok-live.live.edges.items (plain_lists ls)) (sym c.deref-2.ensures.value) all }

pub removed_points-requires-clause-in_range : goal.removed_points-requires-clause-in_range
removed_points-requires-clause-in_range c =
    let live = c.in_ok-live.live in
    let lines : List (Vec Coord) = c.in_ok-lines.lines.items in
    let all : AreLines live.edges.items (plain_lists lines) = subst (λ (es : List Seg). AreLines es (plain_lists lines)) c.deref.ensures.value c.in_ok-lines.ensures in
    subst AreLinesInRange (sym c.deref-3.ensures.value) (lines_range c.args.c.now c.requires.in_range live.edges.items live.odd.items c.in_ok-live.ensures.exact lines all)

pub returns : goal.returns
returns c =
    let members = c.args.c.now in
    let live = c.in_ok-live.live in
    let lines : List (Vec Coord) = c.in_ok-lines.lines.items in
    let all : AreLines live.edges.items (plain_lists lines) = subst (λ (es : List Seg). AreLines es (plain_lists lines)) c.deref.ensures.value c.in_ok-lines.ensures in
    let is_open : AreOpen (uses_of members) c.args.inner (plain_lists lines) c.in_ok-marks.marks.items =
    subst (λ (ls : List (Vec Coord)). AreOpen (uses_of members) c.args.inner (plain_lists ls) c.in_ok-marks.marks.items) c.deref-2.ensures.value
    (c.in_ok-marks.ensures (uses_of members) c.requires.valid (even-ends members) c.in_ok-live.ensures.exact) in
    IfOk-weaker c.removed_points.result _ _ (λ removed h.
    simplified_by members live.edges.items live.odd.items c.in_ok-live.ensures.exact (plain_lists lines) all c.args.tolerance c.args.inner removed.items
    (h (asked_of members live.edges.items (plain_lists lines) all c.args.tolerance c.args.inner)
    (asked_is members live.edges.items lines c.deref-3.result.now all c.args.tolerance c.args.inner c.in_ok-marks.marks.items c.deref-4.result.now is_open c.deref-3.ensures.value c.deref-4.ensures.value))) c.removed_points.ensures
