use Rattle.std.proofs.Common.{refl}
use Rattle.gap_width.proofs.Depths.{facing_at}
use Rattle.gap_width.proofs.facing.is_bounded_by_two.Goals as goal

pub returns-then-is_block_beside_both : goal.returns-then-is_block_beside_both
returns-then-is_block_beside_both c = λ t.
    let s = c.args.block in
    let is = c.build.ensures in
    let beside = c.is_block_beside_both.ensures c.if-is_block_beside_both.true in
    record {
      first = c.args.first;
      second = c.args.second;
      both = refl;
      first_depth = is.first_depth;
      second_depth = is.second_depth;
      first_least = is.first_least;
      second_least = is.second_least;
      facing = facing_at s.lo s.hi c.args.first c.args.second c.args.room c.build.result is beside.0 beside.1 (c.is_block_between.ensures t);
    }
