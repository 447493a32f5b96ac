use Rattle.gap_width.specs.Depth.{IsBetweenPair}
use Rattle.gap_width.proofs.Depths.{rows_are}
use Rattle.gap_width.proofs.facing.is_block_between.Goals as goal

pub returns-then-is_row_between : goal.returns-then-is_row_between
returns-then-is_row_between c = λ t. rows_are c.args.b (IsBetweenPair c.args.pair) c.requires.block (c.is_row_between.ensures c.if-is_row_between.true) (c.is_row_between-then-is_row_between.ensures t)
