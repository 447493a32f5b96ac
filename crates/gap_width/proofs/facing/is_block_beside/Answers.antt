use Rattle.clearance_laws.specs.Facing.{IsBeside}
use Rattle.gap_width.proofs.Depths.{rows_are}
use Rattle.gap_width.proofs.facing.is_block_beside.Goals as goal

pub returns-then-is_row_beside : goal.returns-then-is_row_beside
returns-then-is_row_beside c = λ t. rows_are c.args.b (λ q. IsBeside q c.args.e) c.requires.block (c.is_row_beside.ensures c.if-is_row_beside.true) (c.is_row_beside-then-is_row_beside.ensures t)
