use Rattle.owner_label.proofs.Merging.{members-more, longer_push}
use Rattle.owner_label.proofs.toggle.append_members.Goals as goal

pub loop-place-preserved : goal.loop-place-preserved
loop-place-preserved c = record {
  longer = longer_push _ _ _ _ c.in_ok-push.ensures.items c.loop-place.invariant.longer;
  appended = members-more c.args.odd.now c.args.places.now c.loop-place.place-index _ c.args.list.now.items c.loop-place.list.items c.push.new.self.items c.loop-place-test.true
      (c.requires.places c.loop-place.place-index 0 c.loop-place-test.true) c.loop-place.invariant.appended c.in_ok-push.ensures.items;
}
