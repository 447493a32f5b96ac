use Rattle.fault_map.specs.FaultMap.{IsMarkFeature}
use Rattle.fault_map.proofs.Appended.{appended_none, appended_more, appended_all}
use Rattle.fault_map.proofs.features.append_marks.Goals as goal

pub loop-mark-init : goal.loop-mark-init
loop-mark-init c = appended_none (IsMarkFeature c.args.uses.now) c.args.marks.now c.args.features.now.items

pub loop-mark-preserved : goal.loop-mark-preserved
loop-mark-preserved c =
    appended_more (IsMarkFeature c.args.uses.now) c.args.marks.now c.args.features.now.items c.loop-mark.mark-index _ _ c.loop-mark.features.items c.push.new.self.items c.loop-mark-test.true c.mark_feature.ensures c.in_ok-push.ensures.items c.loop-mark.invariant

pub returns : goal.returns
returns c = appended_all (IsMarkFeature c.args.uses.now) c.args.marks.now c.args.features.now.items c.loop-mark.mark-index c.loop-mark.features.items c.loop-mark-test.false c.loop-mark.invariant
