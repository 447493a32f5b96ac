use Rattle.gap_width.proofs.Steps.{sum_read}
use Rattle.gap_width.proofs.block.Block.centre.Goals as goal

pub returns-clause-exact : goal.returns-clause-exact
returns-clause-exact c =
    let s = c.args.self in
    let is = c.requires in
    λ i. record { x = sum_read s.lo.x s.hi.x is.left is.across is.right i; y = sum_read s.lo.y s.hi.y is.bottom is.upwards is.top i }
