use Rattle.std.proofs.Common.{subst}
use Rattle.gap_width.specs.Depth.{IsBetweenPair}
use Rattle.gap_width.proofs.Depths.{block_within, corner_is}
use Rattle.gap_width.proofs.facing.is_row_between.Goals as goal

pub returns-then-is_between : goal.returns-then-is_between
returns-then-is_between c = λ t.
    let b = c.args.b in
    let within = block_within b c.requires.block in
    let left = corner_is c.corner-left.result b.lo.x c.args.y within.0.0 c.requires.row c.corner-left.ensures.exact in
    let right = corner_is c.corner-right.result b.hi.x c.args.y within.0.1 c.requires.row c.corner-right.ensures.exact in
    (subst (λ q. IsBetweenPair c.args.pair q) left (c.is_between.ensures c.if-is_between.true), subst (λ q. IsBetweenPair c.args.pair q) right (c.is_between-then-is_between.ensures t))
