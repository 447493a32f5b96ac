use mathlib.Core.List.{[]}
use Rattle.std.proofs.Common.{inl, inr, arith}
use Rattle.std.proofs.lemmas.Bool.{cases_lt}
use Rattle.visvalingam.proofs.Spots.{line_within}
use Rattle.visvalingam.proofs.begin.first_queue.Goals as goal

pub loop-line-preserved : goal.loop-line-preserved
loop-line-preserved c s q asked linked less h =
    elim (cases_lt q.line c.loop-line.line) [
      | inl before ↦ c.in_ok-enter_line.ensures.kept q (c.loop-line.invariant s q asked linked before h)
      | inr late ↦ c.in_ok-enter_line.ensures.entered s [] q asked linked (omega (arith, less, late)) h
    ]

pub returns : goal.returns
returns c s q asked linked h =
    let past = c.loop-line-test.false in
    let within = line_within s c.args.task.now asked [] q h in
    c.loop-line.invariant s q asked linked (omega (arith, past, within)) h
