use Rattle.std.proofs.Common.{◌<◌, length, arith}
use Rattle.owner_label.proofs.Spreading.{queue_reached, queue_within, sides_ready, begun_stays, left-more, all_left, labels_right}
use Rattle.owner_label.proofs.spread.labels_of_regions.Goals as goal

pub group-requires : goal.group-requires
group-requires c =
    let within = queue_within c.args.map.now c.loop-next.spread c.loop-next.invariant.spread c.loop-next.next _ (omega (arith, c.loop-next-test.true)) c.index-region.ensures in
    record { within = omega (arith, within, c.requires.sides.long) }

pub leave-requires-clause-within : goal.leave-requires-clause-within
leave-requires-clause-within c = λ k d within. (sides_ready c.args.map.now c.len.ensures.sided c.loop-next.spread _ _ _ c.requires.sides c.group.ensures
    (queue_reached c.args.map.now c.loop-next.spread c.loop-next.invariant.spread c.loop-next.next _ (omega (arith, c.loop-next-test.true)) c.index-region.ensures) k d within).0

pub leave-requires-clause-reached : goal.leave-requires-clause-reached
leave-requires-clause-reached c = λ k d within. (sides_ready c.args.map.now c.len.ensures.sided c.loop-next.spread _ _ _ c.requires.sides c.group.ensures
    (queue_reached c.args.map.now c.loop-next.spread c.loop-next.invariant.spread c.loop-next.next _ (omega (arith, c.loop-next-test.true)) c.index-region.ensures) k d within).1

pub loop-next-preserved : goal.loop-next-preserved
loop-next-preserved c =
    let within : c.loop-next.next < length c.loop-next.spread.queue.items = omega (arith, c.loop-next-test.true) in
    let step = c.in_ok-leave.ensures in
    record {
      spread = step.spread;
      begun = begun_stays c.args.map.now c.loop-next.spread c.leave.new.self step.grows c.loop-next.invariant.begun;
      left = left-more c.args.map.now c.loop-next.spread c.leave.new.self c.loop-next.next _ _ _ c.requires.sides c.group.ensures
          within c.index-region.ensures c.loop-next.invariant.left step.grows step.crossed;
    }

pub returns : goal.returns
returns c =
    labels_right c.args.map.now c.len.ensures.sided c.loop-next.spread c.loop-next.invariant.spread
    (all_left c.args.map.now c.loop-next.spread c.loop-next.next (omega (arith, c.loop-next-test.false)) c.loop-next.invariant.left) c.loop-next.invariant.begun
