use Rattle.std.proofs.Common.{◌<◌, ◌≤◌, sym, subst, arith}
use Rattle.cov_types.specs.Range.{IsInRange}
use Rattle.cov_locate.proofs.Passing.{start_in_range}
use Rattle.cov_locate.proofs.run.part_above.Goals as goal
use Rattle.cov_locate.proofs.run.part_above.Goals.{then-block-run, else-block-run}

pub is_started-requires-clause-first : goal.is_started-requires-clause-first
is_started-requires-clause-first c =
    subst IsInRange (sym c.index.ensures)
    (start_in_range c.args.outline.now.uses.items c.args.outline.now.starts.items c.args.run c.args.from c.index.result.now c.requires.ring c.requires.uses_in_range c.requires.begins c.requires.some)

pub is_started-requires-2-clause-first : goal.is_started-requires-2-clause-first
is_started-requires-2-clause-first c =
    let next = c.if-block-run.next in
    let within : (c.args.run.from ≤ next) × (next < c.args.run.to) =
    elim c.if-block-run.branch [ then-block-run w ↦ (omega (arith, w.next-is), omega (arith, w.next-is)) | else-block-run w ↦ (omega (arith, w.next-is), omega (arith, w.next-is, c.requires.ring.some)) ] in
    subst IsInRange (sym c.index-2.ensures)
    (start_in_range c.args.outline.now.uses.items c.args.outline.now.starts.items c.args.run next c.index-2.result.now c.requires.ring c.requires.uses_in_range within.0 within.1)
