use Rattle.gap_width.proofs.Halves.{upwards_parts, kept, next_kept, before_kept, from_kept}
use Rattle.gap_width.proofs.block.Block.parted_upwards.Goals as goal

pub returns-clause-halves : goal.returns-clause-halves
returns-clause-halves c =
    let s = c.args.self in
    let is = c.requires.block in
    let m = c.args.middle in
    upwards_parts s is m c.requires.from c.requires.before _ _ _ _
    (before_kept s.lo.y m s.hi.y is.bottom c.requires.from c.requires.before is.top)
    (next_kept s.lo.y m s.hi.y is.bottom c.requires.from c.requires.before is.top)
    (kept s.lo.x s.hi.x is.left is.across is.right)
    (from_kept s.lo.x s.hi.x is.left is.across is.right)
