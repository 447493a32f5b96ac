use Rattle.std.proofs.Common.{subst}
use Rattle.clearance_laws.specs.Facing.{IsBeside}
use Rattle.gap_width.proofs.Depths.{block_within, corner_is}
use Rattle.gap_width.proofs.facing.is_row_beside.Goals as goal

pub returns-then-is_beside : goal.returns-then-is_beside
returns-then-is_beside c = λ t.
    let b = c.args.b in
    let within = block_within b c.requires.block in
    let left = corner_is c.corner-left.result b.lo.x c.args.y within.0.0 c.requires.row c.corner-left.ensures.exact in
    let right = corner_is c.corner-right.result b.hi.x c.args.y within.0.1 c.requires.row c.corner-right.ensures.exact in
    (subst (λ q. IsBeside q c.args.e) left (c.is_beside.ensures c.if-is_beside.true), subst (λ q. IsBeside q c.args.e) right (c.is_beside-then-is_beside.ensures t))
