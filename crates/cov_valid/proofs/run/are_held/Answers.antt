use Rattle.std.proofs.Common.{◌∙◌, sym, ap₂}
use Rattle.cov_valid.proofs.Stabs.{odd_more}
use Rattle.cov_valid.proofs.run.are_held.Goals as goal
use Rattle.parity_laws.specs.Paths.{differ}
use Rattle.plane.specs.Segment.{midpoint}

pub loop-u-preserved : goal.loop-u-preserved
loop-u-preserved c =
    ap₂ differ c.loop-u.invariant c.over_mid-holds.ensures ∙ sym (odd_more c.args.uses.now c.loop-u.u-index _ (midpoint c.args.s) c.loop-u-test.true c.u-item.is)
