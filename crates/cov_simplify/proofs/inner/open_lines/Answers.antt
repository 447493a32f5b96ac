use mathlib.Core.List.{[], ◌∷◌}
use Rattle.std.proofs.Common.{◌≡◌, ◌∙◌, ◌↔◌, ap, sym, subst, ◌+◌, ◌≤◌, ◌<◌, true, IsTrue, List, Bool, length, arith}
use Rattle.std.specs.Prelude.{slice_get}
use Rattle.std.proofs.lemmas.List.{length-append, length-map}
use Rattle.cov_types.specs.declared.coord.Coord.{Coord}
use Rattle.cov_types.specs.declared.seg.Seg.{Seg}
use Rattle.greedy_run.specs.Lines.{IsLine}
use Rattle.greedy_run.specs.Run.{IsInner}
use Rattle.line_walk.specs.Line.{plain_lists}
use Rattle.cov_simplify.proofs.Marks.{marks_more, same_points, plain_has, counted_uses}
use Rattle.cov_simplify.proofs.inner.open_lines.Goals as goal

pub is_open-requires-clause-line : goal.is_open-requires-clause-line
is_open-requires-clause-line c =
    let v = c.index-lines-i.result in
    subst (λ (es : List Seg). IsLine es c.deref-in-loop-i-2.result.now) (sym c.deref.ensures.value)
    (subst (λ (ps : List Coord). IsLine c.args.live.now.edges.items ps) (sym c.deref-in-loop-i-2.ensures.value)
    ((c.requires.lines.exact v.items).0 (plain_has c.args.lines.now c.loop-i.i v c.loop-i-test.true c.index-lines-i.is)))

pub loop-i-preserved : goal.loop-i-preserved
loop-i-preserved c =
    let within = c.loop-i-test.true in
    record {
      long = ap (λ (ms : List Bool). length ms) c.in_ok-push.ensures.items ∙ length-append c.loop-i.marks.items (c.is_open.result ∷ []) ∙ ap (λ n. n + 1) c.loop-i.invariant.long;
      within = omega arith;
      each = λ uses valid even are k points mark at is. (
          let v = c.index-lines-i.result in
          let odd = c.args.live.now.odd.items in
          let P : List Coord → Bool → Type 0 = λ ps b. IsTrue b ↔ (c.args.inner_only ≡ true → IsInner uses ps) in
          let counted = counted_uses uses c.args.live.now.edges.items c.deref.result.now odd c.in_ok-counts.counts.items c.deref-in-loop-i.result.now valid even are c.deref.ensures.value c.deref-in-loop-i.ensures.value
          c.in_ok-counts.ensures.long c.in_ok-counts.ensures.counts in
          let here : P v.items c.is_open.result = subst (λ ps. P ps c.is_open.result) c.deref-in-loop-i-2.ensures.value (c.is_open.ensures uses odd counted) in
          marks_more P (plain_lists c.args.lines.now) c.loop-i.marks.items c.is_open.result (c.loop-i.invariant.each uses valid even are)
          (λ ps at_end. subst (λ qs. P qs c.is_open.result) (same_points c.args.lines.now c.loop-i.i (length c.loop-i.marks.items) v ps c.loop-i.invariant.long within c.index-lines-i.is at_end) here)
          k points mark at (sym (ap (λ ms. slice_get ms k) c.in_ok-push.ensures.items) ∙ is));
    }

pub returns : goal.returns
returns c = λ uses valid even are. record {
  long = omega (arith, c.loop-i.invariant.long, c.loop-i.invariant.within, c.loop-i-test.false, length-map c.args.lines.now (λ v. v.items));
  each = c.loop-i.invariant.each uses valid even are;
}
