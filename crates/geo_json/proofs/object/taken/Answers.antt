use Rattle.std.proofs.Common.{◌∙◌, Some, None}
use Rattle.geo_json.proofs.Objects.{view-Null, member_seen, others_stay}
use Rattle.geo_json.proofs.object.taken.Goals as goal

pub returns-in-Some-clause-value : goal.returns-in-Some-clause-value
returns-in-Some-clause-value c = member_seen c.args.name.now c.args.map.now.entries (Some c.in-Some.value) c.in-Some.ensures.value

pub returns-in-Some-clause-others : goal.returns-in-Some-clause-others
returns-in-Some-clause-others c = others_stay c.args.name.now c.args.map.now c.remove.new.self c.in-Some.ensures.updates

pub returns-in-None-clause-value : goal.returns-in-None-clause-value
returns-in-None-clause-value c = view-Null ∙ member_seen c.args.name.now c.args.map.now.entries None c.in-None.ensures.value
