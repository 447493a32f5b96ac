use Rattle.geo_json.proofs.Document.{alone}
use Rattle.geo_json.specs.Shape.{lone_feature}
use Rattle.serde_json.specs.View.{view}
use Rattle.geo_json.proofs.reader.lone.Goals as goal

pub returns-clause-ok : goal.returns-clause-ok
returns-clause-ok c = alone (lone_feature (view c.args.value)) c.new-all.result c.push.new.self c.in_ok-read.read c.in_ok-read.ensures.ok c.new-all.ensures.read c.in_ok-push.ensures.read
