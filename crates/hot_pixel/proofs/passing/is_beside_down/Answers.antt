use Rattle.std.proofs.Common.{pos, ◌*ℤ◌, rules, arith}
use Rattle.std.proofs.lemmas.Int.{ints}
use Rattle.plane.specs.Segment.{turn_of}
use Rattle.hot_pixel.proofs.Beside.{lt_told, not_below, extent_read, reach_read, minus_read, turn_read, down_by_high, down_fails}
use Rattle.hot_pixel.proofs.passing.is_beside_down.Goals as goal

pub overflow_sub-reach : goal.overflow_sub-reach
overflow_sub-reach c = let a = c.extent.ensures.small in let b = c.extent-2.ensures.small in omega (arith, ints)

pub returns-then-reach-twice : goal.returns-then-reach-twice
returns-then-reach-twice c =
    let width = extent_read _ c.args.s.lo.x c.args.s.hi.x (search rules) (search rules) c.extent.ensures.exact in
    let height = extent_read _ c.args.s.hi.y c.args.s.lo.y (search rules) (search rules) c.extent-2.ensures.exact in
    let turned = turn_read _ (pos 2 *ℤ turn_of c.args.s.lo c.args.s.hi c.args.r) c.twice_turn-twice.ensures.small c.twice_turn-twice.ensures.exact in
    let reach = reach_read _ _ _ _ c.extent.ensures.small c.extent-2.ensures.small width height in
    let minus = minus_read _ _ _ _ c.extent.ensures.small c.extent-2.ensures.small width height in
    down_by_high c.args.s c.args.r _ _ c.requires (not_below _ _ (search rules) (search rules) c.if-s-r.false) (not_below _ _ (search rules) (search rules) c.if-r-s.false) ((lt_told minus turned).0 c.if-reach-twice.true) turned reach

pub returns-else-reach-twice : goal.returns-else-reach-twice
returns-else-reach-twice c =
    let width = extent_read _ c.args.s.lo.x c.args.s.hi.x (search rules) (search rules) c.extent.ensures.exact in
    let height = extent_read _ c.args.s.hi.y c.args.s.lo.y (search rules) (search rules) c.extent-2.ensures.exact in
    let turned = turn_read _ (pos 2 *ℤ turn_of c.args.s.lo c.args.s.hi c.args.r) c.twice_turn-twice.ensures.small c.twice_turn-twice.ensures.exact in
    let minus = minus_read _ _ _ _ c.extent.ensures.small c.extent-2.ensures.small width height in
    down_fails c.args.s c.args.r _ _ minus turned c.if-reach-twice.false
