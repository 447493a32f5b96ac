use Rattle.json_write.proofs.Features.{feature_appended, all_appended}
use Rattle.json_write.proofs.document.append_features.Goals as goal

pub loop-i-preserved : goal.loop-i-preserved
loop-i-preserved c =
    let written = c.in_ok-append_feature.ensures in
    feature_appended c.args.members.now c.args.properties.now c.args.ids.now c.loop-i.i c.index-members-i.result c.index-properties-i.result c.index-ids-i.result
    c.args.out.now.items c.loop-i.out.items c.append_comma_if.new.out.items c.append_feature.new.out.items written.0
    c.loop-i-test.true c.requires.properties c.requires.ids c.index-members-i.is c.index-properties-i.is c.index-ids-i.is
    c.loop-i.invariant c.in_ok-append_comma_if.ensures written.1 written.2

pub returns : goal.returns
returns c =
    let all = all_appended c.args.members.now c.args.properties.now c.args.ids.now c.loop-i.i c.args.out.now.items c.loop-i.out.items c.loop-i-test.false c.requires.properties c.requires.ids c.loop-i.invariant in
    (all.texts, all.each, all.appended)
