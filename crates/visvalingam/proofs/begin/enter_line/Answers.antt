use Rattle.std.proofs.Common.{inl, inr, refl, sym, ◌∙◌, ap, Vec, Global, length, arith}
use Rattle.std.proofs.lemmas.Bool.{cases_lt}
use Rattle.std.proofs.lemmas.Option.{slice_get_read}
use Rattle.cov_types.specs.declared.coord.Coord.{Coord}
use Rattle.visvalingam.proofs.Spots.{place_within}
use Rattle.visvalingam.proofs.begin.enter_line.Goals as goal

pub loop-place-preserved : goal.loop-place-preserved
loop-place-preserved c = record {
  kept = λ q has. c.in_ok-enter.ensures.kept q (c.loop-place.invariant.kept q has);
  entered = λ s removed q asked linked line less h. elim (cases_lt q.place c.loop-place.place) [
    | inl before ↦ c.in_ok-enter.ensures.kept q (c.loop-place.invariant.entered s removed q asked linked line before h)
    | inr late ↦ c.in_ok-enter.ensures.entered s removed q asked linked line (omega (arith, less, late)) h
  ];
}

pub returns-clause-entered : goal.returns-clause-entered
returns-clause-entered c s removed q asked linked line h =
    let lines = c.args.task.now.lines.now in
    let past = c.loop-place-test.false in
    let own = c.index-task-line.result in
    let at = slice_get_read lines (length lines) c.args.line own refl c.requires.line c.index-task-line.is in
    let count = c.len-place-end.ensures ∙ ap (λ (v : Vec Coord Global). v.len) (sym c.index-task-line.is) in
    let within = place_within s c.args.task.now asked removed q h c.args.line own at line in
    c.loop-place.invariant.entered s removed q asked linked line (omega (arith, past, within, count, own.ok.0)) h
