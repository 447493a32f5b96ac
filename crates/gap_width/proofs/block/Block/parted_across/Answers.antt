use Rattle.gap_width.proofs.Halves.{across_parts, kept, next_kept, before_kept, from_kept}
use Rattle.gap_width.proofs.block.Block.parted_across.Goals as goal

pub returns-clause-halves : goal.returns-clause-halves
returns-clause-halves c =
    let s = c.args.self in
    let is = c.requires.block in
    let m = c.args.middle in
    across_parts s is m c.requires.from c.requires.before _ _ _ _
    (before_kept s.lo.x m s.hi.x is.left c.requires.from c.requires.before is.right)
    (next_kept s.lo.x m s.hi.x is.left c.requires.from c.requires.before is.right)
    (kept s.lo.y s.hi.y is.bottom is.upwards is.top)
    (from_kept s.lo.y s.hi.y is.bottom is.upwards is.top)
