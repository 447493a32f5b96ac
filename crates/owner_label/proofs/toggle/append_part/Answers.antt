use Rattle.std.proofs.Common.{arith}
use Rattle.owner_label.proofs.Merging.{part-more}
use Rattle.owner_label.proofs.toggle.append_part.Goals as goal

pub loop-place-preserved : goal.loop-place-preserved
loop-place-preserved c = record {
  longer = omega (arith, c.loop-place.invariant.longer);
  appended = part-more c.args.list.now.items c.loop-place.list.items _ c.args.from c.loop-place.place c.index-member.result.now (omega arith) (omega arith) c.index-member.ensures c.loop-place.invariant.appended c.in_ok-push.ensures.items;
}
