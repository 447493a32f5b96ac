use Rattle.std.proofs.Common.{ℕ, arith}
use Rattle.gap_width.proofs.Blocks.{some_room, after_some, no_room_yet, stand_for_all}
use Rattle.gap_width.specs.Search.{asked_for}
use Rattle.gap_width.proofs.search.coarse_room.Goals as goal

pub loop-finest-preserved : goal.loop-finest-preserved
loop-finest-preserved c =
    let s = c.args.whole.block in
    let before = c.loop-finest.invariant in
    record {
      small = c.in_ok-most.ensures.small;
      some = λ edges r are know.
          after_some edges r 0 s c.args.best c.loop-finest.most c.in_ok-most.most (before.some edges r are know)
          (some_room edges r (asked_for c.loop-finest.finest c.args.enough) s s c.loop-finest.most c.in_ok-most.most (c.in_ok-most.ensures.best edges r are (stand_for_all c.args.own.now s) know));
    }
