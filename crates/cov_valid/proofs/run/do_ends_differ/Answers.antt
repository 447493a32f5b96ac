use Rattle.std.proofs.Common.{◌<◌, ◌≤◌, sym, subst, arith}
use Rattle.cov_types.specs.Range.{IsInRange}
use Rattle.cov_valid.proofs.Stabs.{start_in_range}
use Rattle.cov_valid.proofs.run.do_ends_differ.Goals as goal
use Rattle.cov_valid.proofs.run.do_ends_differ.Goals.{then-to-run, else-to-run}

pub is_started-requires-clause-point_in_range : goal.is_started-requires-clause-point_in_range
is_started-requires-clause-point_in_range c =
    subst IsInRange (sym c.index.ensures)
    (start_in_range c.args.outline.now.uses.items c.args.outline.now.starts.items c.args.run c.args.from c.index.result.now c.requires.ring c.requires.uses_in_range c.requires.begins c.requires.some)

pub is_started-requires-2-clause-point_in_range : goal.is_started-requires-2-clause-point_in_range
is_started-requires-2-clause-point_in_range c =
    let next = c.if-to-run.next in
    let within : (c.args.run.from ≤ next) × (next < c.args.run.to) =
    elim c.if-to-run.branch [ then-to-run w ↦ (omega (arith, w.next-is), omega (arith, w.next-is)) | else-to-run w ↦ (omega (arith, w.next-is), omega (arith, w.next-is, c.requires.ring.some)) ] in
    subst IsInRange (sym c.index-2.ensures)
    (start_in_range c.args.outline.now.uses.items c.args.outline.now.starts.items c.args.run next c.index-2.result.now c.requires.ring c.requires.uses_in_range within.0 within.1)
